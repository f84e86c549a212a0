-- Slots that hold the entries in the order of keys, what they share and their skips, as what is promised of each lexicon's slots.
use Prim.Native.Nat.{ℕ, zero, suc, ◌+◌, ◌*◌, ◌-◌, ◌<◌, ◌≤◌}
use native.Mathlib.Omega.{arith}
use native.Mathlib.Decide.{dec_lt, dec_le}
use mathlib.Core.Path.{◌≡◌, refl, sym, ap, ◌∙◌, subst}
use mathlib.Core.List.{List}
use lib.ListN.{length, get_or, take, drop, length-take, length-drop}
use lib.Seq.{get_or-take, get_or-drop, take-take, ext_get_or}
use Rattle.model.specs.Lists.{byte, within}
use Rattle.model.specs.Blocks.{Header, header}
use Rattle.model.specs.Lexicon.{first_entry, entry_count, entry, form_length, form_of}
use Rattle.model.proofs.Booleans.{within_out}
use Rattle.model.proofs.Rest.{every_get_d}
use Rattle.image.specs.Accepted.{Accepted}
use Rattle.lexicon.proofs.Laws.{form_short, form_size, form_letters_lem, lexicon_within, first_more, first_last}
use Rattle.lexicon.specs.Sole.{WayOf}
use Rattle.forms.specs.Slots.{slot_length, slot_form, slot_onward, slot_entry, skip_to, Slotted}
use Rattle.orders.specs.Orders.{key_entry}
use Rattle.forms.specs.Filling.{SkipsOf, Held, Sharing}
use Rattle.orders.proofs.AcceptedLaws.{entries_ok, arranged_within}

-- one slot
module _ (image : List ℕ) (h : Header) (a : Accepted image h) (slots : List ℕ) (held : Held image slots h.lexicons h.entries) where
  abbrev holds : ℕ → ℕ
  holds i = key_entry held.keys i

  module _ (i : ℕ) (there : i < h.entries) where
    inside : holds i < h.entries
    inside = arranged_within image h a held.keys held.arranged i there

    slot_byte : (k : ℕ) → k < 13 → get_or slots (16 * i + k) 0 ≡ byte (entry image (holds i)) k
    slot_byte k l = held.held.bytes i there k l

    length_is : slot_length slots i ≡ form_length (entry image (holds i))
    length_is = let z : 16 * i ≡ 16 * i + 0 = omega arith in ap (byte slots) z ∙ slot_byte 0 (omega arith)

    pub slot_short : slot_length slots i ≤ 12
    slot_short = omega (arith, length_is, form_short image h a.laid (entries_ok image h a) (holds i) inside)

    form_long : length (slot_form slots i) ≡ slot_length slots i
    form_long = omega (arith, length-take (slot_length slots i) (drop (16 * i + 1) slots), length-drop (16 * i + 1) slots, held.held.long, slot_short, a.laid.limits.entries_most)

    slot_form_lem : slot_form slots i ≡ form_of (entry image (holds i))
    unfolding form_of
    slot_form_lem =
        let n = slot_length slots i in
        let short = form_short image h a.laid (entries_ok image h a) (holds i) inside in
        ext_get_or 0 (slot_form slots i) (form_of (entry image (holds i))) (form_long ∙ length_is ∙ sym (form_size image h a.laid (holds i) inside short))
        (λ k l.
        let less : k < n = omega (arith, form_long) in
        let z : 16 * i + 1 + k ≡ 16 * i + (1 + k) = omega arith in
        get_or-take n (drop (16 * i + 1) slots) k 0 less
        ∙ get_or-drop (16 * i + 1) slots k 0
        ∙ ap (λ (j : ℕ). get_or slots j 0) z
        ∙ slot_byte (1 + k) (omega (arith, slot_short))
        ∙ sym (get_or-take (form_length (entry image (holds i))) (drop 1 (entry image (holds i))) k 0 (omega (arith, length_is)) ∙ get_or-drop 1 (entry image (holds i)) k 0))

    slot_letter : (k : ℕ) → k < slot_length slots i → get_or slots (16 * i + 1 + k) 0 < 128
    slot_letter k l =
        let right = form_letters_lem image h a.laid (entries_ok image h a) (holds i) inside in
        let less : k < length (form_of (entry image (holds i))) = omega (arith, form_long, ap length slot_form_lem) in
        let range = within_out 2 h.letters (get_or (form_of (entry image (holds i))) k 0) (every_get_d (within 2 h.letters) (form_of (entry image (holds i))) k 0 less right) in
        let read : get_or slots (16 * i + 1 + k) 0 ≡ get_or (form_of (entry image (holds i))) k 0 = sym (get_or-take (slot_length slots i) (drop (16 * i + 1) slots) k 0 l ∙ get_or-drop (16 * i + 1) slots k 0) ∙ ap (λ (f : List ℕ). get_or f k 0) slot_form_lem in
        omega (arith, read, range.1, a.laid.limits.letters_most)

    slot_onward_lem : WayOf (entry image (holds i)) (header image).form (slot_onward slots i)
    slot_onward_lem = held.held.onward i there

    slot_number : slot_entry slots i ≡ holds i
    slot_number = held.held.numbered i there

  -- the slots of one lexicon
  module _ (shared skips : List ℕ) (s : Sharing image slots shared h.lexicons h.entries) (skip : SkipsOf shared skips h.entries 0) (x : ℕ) (one : x < h.lexicons) where
    abbrev low : ℕ
    low = first_entry image x

    abbrev high : ℕ
    high = first_entry image x + entry_count image x

    high_most : high ≤ h.entries
    high_most = lexicon_within image h a.laid (entries_ok image h a) x one

    -- a skip ends where the next lexicon begins
    skip_most : (i d : ℕ) → i < high → d < 12 → skip_to skips i d ≤ high
    skip_most i d l k = go (dec_le (skip_to skips i d) high) (dec_lt (x + 1) h.lexicons)
      where
        go : Dec (skip_to skips i d ≤ high) → Dec (x + 1 < h.lexicons) → skip_to skips i d ≤ high
        go (yes m) e = m
        go (no m) (yes e) =
            let over = (skip.each i (omega arith) (omega (arith, high_most)) d k).over high l (omega arith) in
            absurd (omega (arith, over, s.firsts (x + 1) e, ap (λ (j : ℕ). get_or shared j 0) (first_more image x)))
        go (no m) (no e) =
            let last : x + 1 ≡ h.lexicons = omega arith in
            omega (arith, first_last image h a.laid (entries_ok image h a), ap (first_entry image) last, first_more image x, (skip.each i (omega arith) (omega (arith, high_most)) d k).inside)

    -- what a skip passes over shares the beginning
    skip_same : (i d : ℕ) → i < high → d < 12 → (n j : ℕ) → j ≡ i + n → j < skip_to skips i d → take (suc d) (slot_form slots j) ≡ take (suc d) (slot_form slots i)
    skip_same i d l k zero j e m = let z : j ≡ i = omega arith in ap (λ (t : ℕ). take (suc d) (slot_form slots t)) z
    skip_same i d l k (suc n) j e m =
        let z : j ≡ suc (i + n) = omega arith in
        let at = skip.each i (omega arith) (omega (arith, high_most)) d k in
        let more : d < get_or shared (suc (i + n)) 0 = at.over (suc (i + n)) (omega arith) (omega arith) in
        let near = s.neighbours.shares (i + n) (omega (arith, at.inside)) in
        let most = get_or shared (suc (i + n)) 0 in
        ap (λ (t : ℕ). take (suc d) (slot_form slots t)) z
        ∙ sym (take-take (suc d) most (slot_form slots (suc (i + n))) (omega arith))
        ∙ ap (take (suc d)) near.same
        ∙ take-take (suc d) most (slot_form slots (i + n)) (omega arith)
        ∙ skip_same i d l k n (i + n) refl (omega arith)

    pub slotted_of : length shared ≡ 2816 → length skips ≡ 67584 → Slotted image slots shared skips low high
    slotted_of e f =
        let most = a.laid.limits.entries_most in
        let there : (i : ℕ) → i < high → i < h.entries = λ i l. omega (arith, high_most) in
        let range = held.arranged.lexicon x one in
        record {
          slots_long = omega (arith, held.held.long, high_most, most);
          shared_long = omega (arith, high_most, most);
          skips_long = omega (arith, high_most, most);
          few = omega (arith, high_most, most);
          form_short = λ i l. slot_short i (there i l);
          letters_in = λ i l k m. slot_letter i (there i l) k m;
          onward_in = λ i l. (slot_onward_lem i (there i l)).in_bound;
          form_is = λ i m l. slot_form_lem i (there i l) ∙ ap (λ (j : ℕ). form_of (entry image j)) (sym (slot_number i (there i l)));
          onward_is = λ i m l. subst (λ (j : ℕ). WayOf (entry image j) (header image).form (slot_onward slots i)) (sym (slot_number i (there i l))) (slot_onward_lem i (there i l));
          entry_in = λ i m l. subst (λ (j : ℕ). (low ≤ j) × (j < high)) (sym (slot_number i (there i l))) (range.entry_in i m l);
          apart = λ i j m l n z. range.apart i j m l n (sym (slot_number i (there i (omega arith))) ∙ z ∙ slot_number j (there j n));
          all = λ j m l. let w = range.all j m l in (w.0, (w.1.0, (w.1.1.0, slot_number w.0 (there w.0 w.1.1.0) ∙ w.1.1.1)));
          first = λ l. s.firsts x one;
          shares = λ i m l. let w = s.neighbours.shares i (there (suc i) l) in (w.this, (w.next, w.same));
          skip_on = λ i d m l k. let deep : d < 12 = omega (arith, slot_short i (there i l)) in ((skip.each i (omega arith) (there i l) d deep).on, skip_most i d l deep);
          skip_over = λ i d m l k j n o. let deep : d < 12 = omega (arith, slot_short i (there i l)) in skip_same i d l deep (j - i) j (omega arith) o;
          skip_end = λ i d m l k n. let deep : d < 12 = omega (arith, slot_short i (there i l)) in (skip.each i (omega arith) (there i l) d deep).ends (omega (arith, high_most));
        }
