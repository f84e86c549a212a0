-- Entries copied into slots one after another, and the letters that two neighbours share.
use Prim.Native.Nat.{ℕ, suc, ◌+◌, ◌*◌, ◌<◌, ◌≤◌}
use native.Mathlib.Omega.{arith}
use native.Mathlib.Decide.{ℕ_discrete}
use mathlib.Core.Path.{◌≡◌, refl, sym, ap, ap₂, ◌∙◌, subst}
use mathlib.Core.Logic.{◌⊎◌, inl, inr}
use mathlib.Core.List.{List}
use lib.ListN.{length, get_or, set, take, drop, length-set, length-take, length-drop}
use lib.Seq.{get_or-set_same, get_or-set_other, get_or-take, get_or-drop, take-take, ext_get_or}
use borrow.Rule.Slice.PartMut.{put_mid, same_len_mid}
use Rattle.std.proofs.lemmas.List.{places}
use Rattle.model.specs.Lists.{byte}
use Rattle.model.specs.Blocks.{Header, header, record_start}
use Rattle.model.specs.Lexicon.{first_entry, entry}
use Rattle.image.specs.Laid.{Laid}
use Rattle.lexicon.specs.Sole.{WayOf}
use Rattle.lexicon.proofs.Laws.{entry_byte}
use Rattle.forms.specs.Slots.{slot_length, slot_onward, slot_entry}
use Rattle.orders.specs.Orders.{key_entry}
use Rattle.forms.specs.Filling.{Copied, SlotPut, SlotsOf, Shares, SharedOf, FirstsCleared}
use Rattle.forms.proofs.Stores.{stored, stored_long, stored_other, stored_here}

-- n bytes of one list put in the place of as many of another, their count told by its two ends
pub part_copied : (source old part : List ℕ) (at to n m k : ℕ) → m ≡ n → k ≡ n → part ≡ take k (drop at source) → at + n ≤ length source → to + n ≤ length old
    → Copied source old (put_mid to m old part) at to n
part_copied source old part at to n m k e f g inside room = rw (e, g, f) record {
  long = same_len_mid to n old bytes (wide source at inside ∙ sym (wide old to room));
  here = λ j h. middle j h;
  elsewhere = λ j o. other j o;
}
  where
    bytes : List ℕ
    bytes = take n (drop at source)

    wide : (l : List ℕ) (a : ℕ) → a + n ≤ length l → length (take n (drop a l)) ≡ n
    wide l a h = omega (arith, length-take n (drop a l), length-drop a l)

    middle : (j : ℕ) → j < n → get_or (put_mid to n old bytes) (to + j) 0 ≡ get_or source (at + j) 0
    middle j h = grind (arith, places)

    other : (j : ℕ) → (j < to) ⊎ (to + n ≤ j) → get_or (put_mid to n old bytes) j 0 ≡ get_or old j 0
    other j (inl l) = grind (arith, places)
    other j (inr l) = grind (arith, places)

-- an entry's first 13 bytes, its way on, and its number after them
pub slot_put : (image : List ℕ) (h : Header) (laid : Laid image h) (old new : List ℕ) (at i e way : ℕ) → at ≡ record_start h 6 e → e < 65536 → 16 * i + 16 ≤ length old
    → Copied image old new at (16 * i) 13 → WayOf (entry image e) h.form way → SlotPut image old (stored (set new (16 * i + 13) way) (16 * i + 14) e) i e
slot_put image h laid old new at i e way f small inside c w = record {
  long = stored_long mid (16 * i + 14) e ∙ length-set new (16 * i + 13) way ∙ c.long;
  bytes = λ k l.
      stored_other mid (16 * i + 14) e (16 * i + k) (λ z. omega arith) (λ z. omega arith)
      ∙ get_or-set_other new (16 * i + 13) (16 * i + k) way 0 (λ z. omega arith)
      ∙ c.here k l ∙ ap (λ (j : ℕ). get_or image (j + k) 0) f ∙ sym (entry_byte image h laid e k (omega arith));
  onward = subst (WayOf (entry image e) (header image).form) (sym way_is) (subst (λ (g : Header). WayOf (entry image e) g.form way) laid.header_is w);
  numbered = stored_here mid (16 * i + 14) e (omega (arith, c.long, length-set new (16 * i + 13) way)) small;
  elsewhere = λ j o. stored_other mid (16 * i + 14) e j (apart j o 14 (omega arith)) (λ z. apart j o 15 (omega arith) (omega arith))
      ∙ get_or-set_other new (16 * i + 13) j way 0 (apart j o 13 (omega arith)) ∙ c.elsewhere j (outside j o);
}
  where
    mid : List ℕ
    mid = set new (16 * i + 13) way

    way_is : slot_onward (stored mid (16 * i + 14) e) i ≡ way
    way_is = stored_other mid (16 * i + 14) e (16 * i + 13) (λ z. omega arith) (λ z. omega arith) ∙ get_or-set_same new (16 * i + 13) way 0 (omega (arith, c.long))

    apart : (j : ℕ) → (j < 16 * i) ⊎ (16 * i + 16 ≤ j) → (k : ℕ) → k < 16 → j ≡ 16 * i + k → ⊥
    apart j (inl l) k m z = omega arith
    apart j (inr l) k m z = omega arith

    outside : (j : ℕ) → (j < 16 * i) ⊎ (16 * i + 16 ≤ j) → (j < 16 * i) ⊎ (16 * i + 13 ≤ j)
    outside j (inl l) = inl l
    outside j (inr l) = inr (omega arith)

pub slots_none : (image keys slots : List ℕ) → length slots ≡ 45056 → SlotsOf image keys slots 0
slots_none image keys slots e = record { long = e; bytes = λ i h. absurd (omega arith); onward = λ i h. absurd (omega arith); numbered = λ i h. absurd (omega arith) }

pub slots_more : (image keys old new : List ℕ) (i e : ℕ) → SlotsOf image keys old i → SlotPut image old new i e → e ≡ key_entry keys i → SlotsOf image keys new (i + 1)
slots_more image keys old new i e s put f = record {
  long = put.long ∙ s.long;
  bytes = λ j h k l. go j h k l (ℕ_discrete j i);
  onward = λ j h. on j h (ℕ_discrete j i);
  numbered = λ j h. last j h (ℕ_discrete j i);
}
  where
    on : (j : ℕ) → j < i + 1 → Dec (j ≡ i) → WayOf (entry image (key_entry keys j)) (header image).form (slot_onward new j)
    on j h (yes z) =
        subst (λ (m : ℕ). WayOf (entry image (key_entry keys m)) (header image).form (slot_onward new m)) (sym z)
        (subst (λ (m : ℕ). WayOf (entry image m) (header image).form (slot_onward new i)) f put.onward)
    on j h (no z) = subst (WayOf (entry image (key_entry keys j)) (header image).form) (sym (put.elsewhere (16 * j + 13) (inl (omega arith)))) (s.onward j (omega arith))

    go : (j : ℕ) → j < i + 1 → (k : ℕ) → k < 13 → Dec (j ≡ i) → get_or new (16 * j + k) 0 ≡ byte (entry image (key_entry keys j)) k
    go j h k l (yes z) = ap (λ (m : ℕ). get_or new (16 * m + k) 0) z ∙ put.bytes k l ∙ ap (λ (m : ℕ). byte (entry image m) k) (f ∙ ap (key_entry keys) (sym z))
    go j h k l (no z) = put.elsewhere (16 * j + k) (inl (omega arith)) ∙ s.bytes j (omega arith) k l

    last : (j : ℕ) → j < i + 1 → Dec (j ≡ i) → slot_entry new j ≡ key_entry keys j
    last j h (yes z) = ap (slot_entry new) z ∙ put.numbered ∙ f ∙ ap (key_entry keys) (sym z)
    last j h (no z) = ap₂ (λ (m n : ℕ). m + 256 * n) (put.elsewhere (16 * j + 14) (inl (omega arith))) (put.elsewhere (16 * j + 14 + 1) (inl (omega arith))) ∙ s.numbered j (omega arith)

-- two parts of lists with the same bytes
pub same_part : (xs ys : List ℕ) (a b n : ℕ) → a + n ≤ length xs → b + n ≤ length ys → ((k : ℕ) → k < n → get_or xs (a + k) 0 ≡ get_or ys (b + k) 0) → take n (drop a xs) ≡ take n (drop b ys)
same_part xs ys a b n p q same = ext_get_or 0 (take n (drop a xs)) (take n (drop b ys)) (long xs a p ∙ sym (long ys b q)) (λ i h. at i (omega (arith, long xs a p)))
  where
    long : (l : List ℕ) (c : ℕ) → c + n ≤ length l → length (take n (drop c l)) ≡ n
    long l c h = omega (arith, length-take n (drop c l), length-drop c l)

    at : (i : ℕ) → i < n → get_or (take n (drop a xs)) i 0 ≡ get_or (take n (drop b ys)) i 0
    at i h = get_or-take n (drop a xs) i 0 h ∙ get_or-drop a xs i 0 ∙ same i h ∙ sym (get_or-take n (drop b ys) i 0 h ∙ get_or-drop b ys i 0)

-- r letters that are the same, of two forms of n and m letters
pub shares_of : (slots : List ℕ) (i n m r : ℕ) → length slots ≡ 45056 → suc i < 2816 → n ≡ byte slots (16 * i) → m ≡ byte slots (16 * i + 16) → n ≤ 12 → m ≤ 12 → r ≤ n → r ≤ m
    → ((k : ℕ) → k < r → get_or slots (16 * i + 17 + k) 0 ≡ get_or slots (16 * i + 1 + k) 0) → Shares slots i r
shares_of slots i n m r long inside e f one two p q same = record {
  this = this;
  next = next;
  same =
      take-take r (slot_length slots (suc i)) (drop (16 * suc i + 1) slots) next
      ∙ same_part slots slots (16 * suc i + 1) (16 * i + 1) r (omega arith) (omega arith)
      (λ k h. let z : 16 * suc i + 1 + k ≡ 16 * i + 17 + k = omega arith in ap (λ (j : ℕ). get_or slots j 0) z ∙ same k h)
      ∙ sym (take-take r (slot_length slots i) (drop (16 * i + 1) slots) this);
}
  where
    this : r ≤ slot_length slots i
    this = omega arith

    next : r ≤ slot_length slots (suc i)
    next = let z : 16 * suc i ≡ 16 * i + 16 = omega arith in omega (arith, ap (byte slots) z)

pub shared_none : (slots shared : List ℕ) → length shared ≡ 2816 → SharedOf slots shared 1
shared_none slots shared e = record { long = e; shares = λ i h. absurd (omega arith) }

pub shared_more : (slots shared : List ℕ) (i j m : ℕ) → SharedOf slots shared i → i ≡ suc j → i < 2816 → Shares slots j m → SharedOf slots (set shared i m) (i + 1)
shared_more slots shared i j m s e inside new = record { long = length-set shared i m ∙ s.long; shares = λ k h. go k h (ℕ_discrete k j) }
  where
    go : (k : ℕ) → suc k < i + 1 → Dec (k ≡ j) → Shares slots k (get_or (set shared i m) (suc k) 0)
    go k h (yes z) =
        let here : suc k ≡ i = omega arith in
        let read : get_or (set shared i m) (suc k) 0 ≡ m = ap (λ (n : ℕ). get_or (set shared i m) n 0) here ∙ get_or-set_same shared i m 0 (omega (arith, s.long)) in
        subst (Shares slots k) (sym read) (subst (λ (n : ℕ). Shares slots n m) (sym z) new)
    go k h (no z) = subst (Shares slots k) (sym (get_or-set_other shared i (suc k) m 0 (λ y. z (omega arith)))) (s.shares k (omega arith))

pub shared_fewer : (slots shared : List ℕ) (m n : ℕ) → m ≤ n → SharedOf slots shared n → SharedOf slots shared m
shared_fewer slots shared m n h s = record { long = s.long; shares = λ i l. s.shares i (omega arith) }

-- sharing nothing is always right
pub shared_cleared : (image slots old new : List ℕ) (n x : ℕ) → SharedOf slots old n → FirstsCleared image old new x → SharedOf slots new n
shared_cleared image slots old new n x s f = record { long = f.long ∙ s.long; shares = λ i l. go i l (f.kept (suc i)) }
  where
    go : (i : ℕ) → suc i < n → (get_or new (suc i) 0 ≡ get_or old (suc i) 0) ⊎ (get_or new (suc i) 0 ≡ 0) → Shares slots i (get_or new (suc i) 0)
    go i l (inl e) = subst (Shares slots i) (sym e) (s.shares i l)
    go i l (inr e) = subst (Shares slots i) (sym e) (record { this = omega arith; next = omega arith; same = refl })

pub firsts_none : (image old : List ℕ) → FirstsCleared image old old 0
firsts_none image old = record { long = refl; kept = λ j. inl refl; firsts = λ x h. absurd (omega arith) }

pub firsts_more : (image old new : List ℕ) (x first : ℕ) → FirstsCleared image old new x → first ≡ first_entry image x → first < length old → FirstsCleared image old (set new first 0) (x + 1)
firsts_more image old new x first f e inside = record {
  long = length-set new first 0 ∙ f.long;
  kept = λ j. keep j (ℕ_discrete j first);
  firsts = λ y h. go y h (ℕ_discrete (first_entry image y) first) (ℕ_discrete y x);
}
  where
    here : get_or (set new first 0) first 0 ≡ 0
    here = get_or-set_same new first 0 0 (omega (arith, f.long))

    keep : (j : ℕ) → Dec (j ≡ first) → (get_or (set new first 0) j 0 ≡ get_or old j 0) ⊎ (get_or (set new first 0) j 0 ≡ 0)
    keep j (yes z) = inr (ap (λ (k : ℕ). get_or (set new first 0) k 0) z ∙ here)
    keep j (no z) = subst (λ (v : ℕ). (v ≡ get_or old j 0) ⊎ (v ≡ 0)) (sym (get_or-set_other new first j 0 0 z)) (f.kept j)

    go : (y : ℕ) → y < x + 1 → Dec (first_entry image y ≡ first) → Dec (y ≡ x) → get_or (set new first 0) (first_entry image y) 0 ≡ 0
    go y h (yes z) d = ap (λ (k : ℕ). get_or (set new first 0) k 0) z ∙ here
    go y h (no z) (yes w) = absurd (z (ap (first_entry image) w ∙ sym e))
    go y h (no z) (no w) = get_or-set_other new first (first_entry image y) 0 0 z ∙ f.firsts y (omega arith)
