-- The entries that may open at a place, as a range and a set of lexicons, and the next of them.
use Prim.Native.Nat.{ℕ, ◌+◌, ◌*◌, ◌-◌, ◌/◌, ◌^◌, ◌<◌, ◌≤◌, max}
use native.Mathlib.Omega.{arith}
use native.Mathlib.Decide.{ℕ_discrete, dec_lt}
use mathlib.Core.Bool.{Bool, true, false, ◌&&◌, not}
use mathlib.Core.Path.{◌≡◌, refl, sym, ap, ap₂, ◌∙◌, subst}
use mathlib.Core.List.{List}
use lib.ListN.{length, get_or}
use lib.Dec.{T, ltb, eqb, eqb→eq}
use borrow.Author.Tests.{le-leb, lt-leb, lt-ltb, le-ltb, eq-eqb, ne_eqb}
use Rattle.model.specs.Lists.{below, number, bit}
use Rattle.model.specs.Blocks.{Header, header}
use Rattle.model.specs.Lexicon.{first_entry, entry_count, in_lexicon, entry, goes_to}
use Rattle.model.specs.GrammarOf.{grammar_of}
use Rattle.model.specs.Query.{Pattern, anything, exactly, entry_numbers}
use Rattle.model.specs.Refusals.{right_entries}
use Rattle.model.proofs.Booleans.{and_out, left_false, right_true, right_false, of_true, true_of, false_of}
use Rattle.model.proofs.Lists.{length_map_below, get_d_map_below, below_from, any_from, bit_none}
use Rattle.image.specs.Accepted.{Accepted}
use Rattle.image.specs.Index.{index_of}
use Rattle.index.proofs.Laws.{length_index_of, lexicon_number}
use Rattle.digits.specs.Ways.{Names, Lowest}
use Rattle.digits.proofs.Bits.{power_bit, digit_taken}
use Rattle.lexicon.proofs.Laws as entries
use Rattle.rules.specs.Paths.{in_some}
use Rattle.rules.proofs.PathLaws.{any_same, some_here}
use Rattle.listing.specs.declared.opening.Ways.{Ways}
use Rattle.listing.specs.declared.opening.Next.{Next}
use Rattle.listing.specs.Places.{root, ended, ways_after}
use Rattle.listing.specs.Opening.{may_enter_some, Known, SetOf, WaysOf, NextWays}

module _ (image : List ℕ) (x : ℕ) where
  in_range : (e : ℕ) → first_entry image x ≤ e → e < first_entry image x + entry_count image x → in_lexicon image x e ≡ true
  unfolding in_lexicon
  in_range e h k = rw (le-leb (first_entry image x) e h, lt-ltb e (first_entry image x + entry_count image x) k) refl

  below_range : (e : ℕ) → e < first_entry image x → in_lexicon image x e ≡ false
  unfolding in_lexicon
  below_range e h = rw (lt-leb (first_entry image x) e h) refl

  past_range : (e : ℕ) → first_entry image x + entry_count image x ≤ e → in_lexicon image x e ≡ false
  unfolding in_lexicon
  past_range e h = let k : first_entry image x ≤ e = omega arith in rw (le-leb (first_entry image x) e k, le-ltb e (first_entry image x + entry_count image x) h) refl

-- sets of lexicons
module _ (image : List ℕ) (lexicons : ℕ) where
  abbrev named : ℕ → ℕ → ℕ → Bool
  named bits e y = bit bits y && in_lexicon image y e

  -- the empty set
  pub some_none : (e : ℕ) → in_some image lexicons 0 e ≡ false
  some_none e = false_of (in_some image lexicons 0 e) (λ t. let u = any_from (named 0 e) (below lexicons) t in subst T (bit_none u.0) (and_out (bit 0 u.0) (in_lexicon image u.0 e) u.2).0)

  -- one lexicon
  pub some_one : (c : ℕ) → c < lexicons → (e : ℕ) → in_some image lexicons (2 ^ c) e ≡ in_lexicon image c e
  some_one c l e = go (in_lexicon image c e) refl
    where
      go : (b : Bool) → in_lexicon image c e ≡ b → in_some image lexicons (2 ^ c) e ≡ b
      go true t = some_here image lexicons (2 ^ c) e c l (rw (power_bit c c, eq-eqb c c refl) t)
      go false t =
          false_of (in_some image lexicons (2 ^ c) e)
          (λ s.
          let u = any_from (named (2 ^ c) e) (below lexicons) s in
          let v = and_out (bit (2 ^ c) u.0) (in_lexicon image u.0 e) u.2 in
          let same = eqb→eq c u.0 (subst T (power_bit c u.0) v.0) in
          subst T (ap (λ (x : ℕ). in_lexicon image x e) (sym same) ∙ t) v.1)

  module _ (bits x : ℕ) (there : T (bit bits x)) where
    -- an entry that is not of lexicon x is of the set without it or not of the set
    pub some_taken : (e : ℕ) → in_lexicon image x e ≡ false → in_some image lexicons bits e ≡ in_some image lexicons (bits - 2 ^ x) e
    some_taken e out = any_same (named bits e) (named (bits - 2 ^ x) e) (below lexicons) (λ y m. go y (ℕ_discrete x y))
      where
        go : (y : ℕ) → Dec (x ≡ y) → named bits e y ≡ named (bits - 2 ^ x) e y
        go y (yes same) =
            let none : in_lexicon image y e ≡ false = ap (λ (z : ℕ). in_lexicon image z e) (sym same) ∙ out in
            right_false (bit bits y) (in_lexicon image y e) none ∙ sym (right_false (bit (bits - 2 ^ x) y) (in_lexicon image y e) none)
        go y (no other) = ap (λ (b : Bool). b && in_lexicon image y e) (sym (digit_taken bits x there y ∙ right_true (bit bits y) (not (eqb x y)) (ap not (ne_eqb x y other))))

    pub known_taken : Known bits lexicons → Known (bits - 2 ^ x) lexicons
    known_taken known y t = known y (and_out (bit bits y) (not (eqb x y)) (subst T (digit_taken bits x there y) t)).0

  -- nothing comes before the first entry of the lowest lexicon
  pub some_before : (bits x : ℕ) → Lowest bits x → (e : ℕ) → e < first_entry image x → in_some image lexicons bits e ≡ false
  some_before bits x low e h =
      false_of (in_some image lexicons bits e)
      (λ t.
      let u = any_from (named bits e) (below lexicons) t in
      let v = and_out (bit bits u.0) (in_lexicon image u.0 e) u.2 in
      go u.0 v.0 (entries.lexicon_out image u.0 e v.1).0 (dec_lt u.0 x) (dec_lt x u.0))
    where
      go : (y : ℕ) → T (bit bits y) → first_entry image y ≤ e → Dec (y < x) → Dec (x < y) → ⊥
      go y s k (yes l) d = subst T (low.none_below y l) s
      go y s k (no l) (yes m) = omega (arith, entries.first_after image x y m)
      go y s k (no l) (no m) =
          let same : x ≡ y = omega arith in
          omega (arith, ap (first_entry image) same)

-- lexicon x is passed over from a number on: that is not before its end, or it has no entry
pub passed_over : (image : List ℕ) (x from low high first : ℕ) → low ≡ first_entry image x → high ≡ first_entry image x + entry_count image x → first ≡ max from low → high ≤ first
    → (e : ℕ) → from ≤ e → in_lexicon image x e ≡ false
passed_over image x from low high first e1 e2 is h e k = go (dec_lt e (first_entry image x))
  where
    go : Dec (e < first_entry image x) → in_lexicon image x e ≡ false
    go (yes l) = below_range image x e l
    go (no l) = past_range image x e (omega arith)

-- the same, by another test with the same answers from a number on
module _ {image : List ℕ} {may other : ℕ → Bool} where
  pub ways_as : ((e : ℕ) → may e ≡ other e) → {ways : Ways} → WaysOf image other ways → WaysOf image may ways
  ways_as same w = record { low_in = w.low_in; in_bound = w.in_bound; known = w.known; inside = λ e k l. same e ∙ w.inside e k l; past = λ e k. same e ∙ w.past e k }

  pub next_as : {from : ℕ} {r : Next} → ((e : ℕ) → from ≤ e → may e ≡ other e) → NextWays image other from r → NextWays image may from r
  next_as {from} {r} same n =
      let next = n.next in
      let ways = n.ways in
      record {
        next = record { onward = next.onward; in_bound = next.in_bound; passed = λ k i j. same k i ∙ next.passed k i j; passes = λ i. same r.entry next.onward ∙ next.passes i };
        ways = record {
          low_in = ways.low_in;
          in_bound = ways.in_bound;
          known = ways.known;
          inside = λ e k l. same e (omega (arith, next.onward, n.low_is)) ∙ ways.inside e k l;
          past = λ e k. same e (omega (arith, next.onward, n.high_in)) ∙ ways.past e k;
        };
        low_is = n.low_is;
        high_in = n.high_in;
      }

-- the next of what may open
module _ (image : List ℕ) (may : ℕ → Bool) (ways : Ways) (w : WaysOf image may ways) (from : ℕ) where
  -- in the range
  pub next_here : ways.low ≤ from → from < ways.high → NextWays image may from (record { entry = from; ways = record { low = from; high = ways.high; rest = ways.rest } })
  next_here a b = record {
    next = record { onward = omega arith; in_bound = omega (arith, w.in_bound); passed = λ k i j. absurd (omega arith); passes = λ i. w.inside from a b };
    ways = record { low_in = omega (arith, w.in_bound); in_bound = w.in_bound; known = w.known; inside = λ e k l. w.inside e (omega arith) l; past = w.past };
    low_is = refl;
    high_in = omega arith;
  }

  -- past it
  pub next_past : ways.high ≤ from → {r : Next} → NextWays image (in_some image (header image).lexicons ways.rest) from r → NextWays image may from r
  next_past h n = next_as (λ e k. w.past e (omega arith)) n

-- the next of a set, where `rest` is left of it
module _ (image : List ℕ) (h : Header) (a : Accepted image h) (bits rest from : ℕ) (few : from ≤ h.entries)
    (same : (e : ℕ) → from ≤ e → in_some image (header image).lexicons bits e ≡ in_some image (header image).lexicons rest e) where
  abbrev lexicons : ℕ
  lexicons = (header image).lexicons

  many : h.entries ≡ (header image).entries
  many = ap (λ (g : Header). g.entries) a.laid.header_is

  pub set_done : rest ≡ 0 → NextWays image (in_some image lexicons bits) from (record { entry = h.entries; ways = record { low = h.entries; high = h.entries; rest = 0 } })
  set_done none = next_as same (record {
    next = record { onward = few; in_bound = omega (arith, many); passed = λ k i j. nothing k; passes = λ i. absurd (omega (arith, many)) };
    ways = record {
      low_in = omega (arith, many);
      in_bound = omega (arith, many);
      known = λ x t. absurd (subst T (bit_none x) t);
      inside = λ e k l. absurd (omega arith);
      past = λ e k. ap (λ (n : ℕ). in_some image lexicons n e) none;
    };
    low_is = refl;
    high_in = omega arith;
  })
    where
      nothing : (k : ℕ) → in_some image lexicons rest k ≡ false
      nothing k = ap (λ (n : ℕ). in_some image lexicons n k) none ∙ some_none image lexicons k

  pub set_found : Known rest lexicons → (x : ℕ) → Lowest rest x → (low high first : ℕ) → low ≡ first_entry image x → high ≡ first_entry image x + entry_count image x
      → first ≡ max from low → first < high
      → NextWays image (in_some image lexicons bits) from (record { entry = first; ways = record { low = first; high = high; rest = rest - 2 ^ x } })
  set_found known x lowest low high first e1 e2 is m = next_as same (record {
    next = record { onward = omega arith; in_bound = omega (arith, within); passed = before; passes = λ i. here first (omega arith) m };
    ways = record {
      low_in = omega (arith, within);
      in_bound = within;
      known = known_taken image lexicons rest x lowest.there known;
      inside = λ e i j. here e (omega arith) j;
      past = λ e i. some_taken image lexicons rest x lowest.there e (past_range image x e (omega arith));
    };
    low_is = refl;
    high_in = omega arith;
  })
    where
      inside : x < lexicons
      inside = known x lowest.there

      within : high ≤ (header image).entries
      within = omega (
        arith,
        entries.lexicon_within image h a.laid (of_true (right_entries image) a.entries_right) x
            (omega (arith, inside, ap (λ (g : Header). g.lexicons) a.laid.header_is)),
        many,
      )

      here : (e : ℕ) → low ≤ e → e < high → in_some image lexicons rest e ≡ true
      here e i j = some_here image lexicons rest e x inside (rw (true_of (bit rest x) lowest.there, in_range image x e (omega arith) (omega arith)) refl)

      before : (i : ℕ) → from ≤ i → i < first → in_some image lexicons rest i ≡ false
      before i p q = some_before image lexicons rest x lowest i (omega arith)

-- what is asked of the path
module _ (image : List ℕ) (bits : ℕ) (known : Known bits (header image).lexicons) where
  -- any path: all of the set
  pub anything_ways : (n : ℕ) → WaysOf image (may_enter_some image anything bits n) (record { low = 0; high = 0; rest = bits })
  anything_ways n = record {
    low_in = omega arith;
    in_bound = omega arith;
    known = known;
    inside = λ e k l. absurd (omega arith);
    past = λ e k. right_true (in_some image (header image).lexicons bits e) true refl;
  }

  module _ (path : List ℕ) (n : ℕ) where
    abbrev t : Pattern
    t = exactly (entry_numbers path)

    abbrev asked : ℕ → Bool
    asked e = t.allows n e

    abbrev some : ℕ → Bool
    some e = in_some image (header image).lexicons bits e

    numbers : length (entry_numbers path) ≡ length path / 2
    unfolding entry_numbers
    numbers = length_map_below (λ i. number path (2 * i)) (length path / 2)

    numbered : n < length path / 2 → get_or (entry_numbers path) n 0 ≡ number path (2 * n)
    unfolding entry_numbers
    numbered k = get_d_map_below (λ i. number path (2 * i)) (length path / 2) n 0 k

    -- past the path's last entry
    not_past : length path / 2 ≤ n → (e : ℕ) → asked e ≡ false
    not_past k e = left_false (ltb n (length (entry_numbers path))) (eqb (get_or (entry_numbers path) n 0) e) (le-ltb n (length (entry_numbers path)) (omega (arith, numbers)))

    asked_other : n < length path / 2 → (e : ℕ) → (number path (2 * n) ≡ e → ⊥) → asked e ≡ false
    asked_other k e f = right_false (ltb n (length (entry_numbers path))) (eqb (get_or (entry_numbers path) n 0) e) (ne_eqb (get_or (entry_numbers path) n 0) e (λ g. f (sym (numbered k) ∙ g)))

    asked_one : n < length path / 2 → (e : ℕ) → number path (2 * n) ≡ e → asked e ≡ true
    asked_one k e g = rw (lt-ltb n (length (entry_numbers path)) (omega (arith, numbers)), eq-eqb (get_or (entry_numbers path) n 0) e (numbered k ∙ g)) refl

    none : ((e : ℕ) → (some e && asked e) ≡ false) → WaysOf image (may_enter_some image t bits n) (record { low = 0; high = 0; rest = 0 })
    none f = record {
      low_in = omega arith;
      in_bound = omega arith;
      known = λ x s. absurd (subst T (bit_none x) s);
      inside = λ e k l. absurd (omega arith);
      past = λ e k. f e ∙ sym (some_none image (header image).lexicons e);
    }

    pub exactly_past : length path / 2 ≤ n → WaysOf image (may_enter_some image t bits n) (record { low = 0; high = 0; rest = 0 })
    exactly_past k = none (λ e. right_false (some e) (asked e) (not_past k e))

    module _ (k : n < length path / 2) (one : ℕ) (e3 : one ≡ number path (2 * n)) where
      other : (e : ℕ) → (e ≡ one → ⊥) → (some e && asked e) ≡ false
      other e f = right_false (some e) (asked e) (asked_other k e (λ g. f (sym g ∙ sym e3)))

      -- the one asked for is of no lexicon of the set
      pub exactly_none : some one ≡ false → WaysOf image (may_enter_some image t bits n) (record { low = 0; high = 0; rest = 0 })
      exactly_none out = none (λ e. go e (ℕ_discrete e one))
        where
          go : (e : ℕ) → Dec (e ≡ one) → (some e && asked e) ≡ false
          go e (yes g) = left_false (some e) (asked e) (ap some g ∙ out)
          go e (no f) = other e f

      pub exactly_one : one < (header image).entries → some one ≡ true → WaysOf image (may_enter_some image t bits n) (record { low = one; high = one + 1; rest = 0 })
      exactly_one l is = record {
        low_in = omega arith;
        in_bound = omega arith;
        known = λ x s. absurd (subst T (bit_none x) s);
        inside = λ e i j. let g : e ≡ one = omega arith in rw (ap some g ∙ is) (asked_one k e (sym e3 ∙ sym g));
        past = λ e i. other e (λ g. omega arith) ∙ sym (some_none image (header image).lexicons e);
      }

      pub exactly_before : (e : ℕ) → e < one → may_enter_some image t bits n e ≡ false
      exactly_before e i = other e (λ g. omega arith)

-- an entry past the last is of no lexicon
pub some_past : (image : List ℕ) (h : Header) → Accepted image h → (bits e : ℕ) → h.entries ≤ e → in_some image (header image).lexicons bits e ≡ false
some_past image h a bits e k =
    false_of (in_some image (header image).lexicons bits e)
    (λ t.
    let u = any_from (named image (header image).lexicons bits e) (below (header image).lexicons) t in
    let v = and_out (bit bits u.0) (in_lexicon image u.0 e) u.2 in
    let l = below_from (header image).lexicons u.0 u.1 in
    omega (arith, entries.lexicon_entry image h a.laid (of_true (right_entries image) a.entries_right) u.0 e (omega (arith, l, ap (λ (g : Header). g.lexicons) a.laid.header_is)) v.1))

-- after an entry, or first: the entries of a set of lexicons
pub root_set : (image : List ℕ) (last : ℕ) → last ≡ root → 1 ≤ (header image).lexicons → SetOf image (ways_after image last) 1
unfolding ways_after grammar_of
root_set image last h some = record {
  known = λ x t. let z = eqb→eq 0 x (subst T (power_bit 0 x) t) in omega arith;
  some = λ e. rw (eq-eqb last root h) (sym (some_one image (header image).lexicons 0 some e));
}

pub entry_ways : (image : List ℕ) (last bits : ℕ) → last < ended → (header image).lexicons ≤ 64 → Names (goes_to (entry image last) (header image).form) bits → (e : ℕ)
    → ways_after image last e ≡ in_some image (header image).lexicons bits e
unfolding ways_after grammar_of
entry_ways image last bits h few names e =
    rw (ne_eqb last root (λ f. omega arith), ne_eqb last ended (λ f. omega arith))
    (any_same (λ x. goes_to (entry image last) (header image).form x && in_lexicon image x e) (λ x. bit bits x && in_lexicon image x e) (below (header image).lexicons)
    (λ x m. ap (λ (b : Bool). b && in_lexicon image x e) (names x (omega (arith, below_from (header image).lexicons x m)))))

-- the index's row of lexicons
module _ (image index : List ℕ) (h : Header) (a : Accepted image h) (is : index ≡ index_of image) (x : ℕ) (inside : x < h.lexicons) where
  here : Accepted image (header image)
  here = subst (Accepted image) a.laid.header_is a

  few : x < 64
  few = omega (arith, a.laid.limits.lexicons_most)

  pub row_inside : 39168 + 2 * x + 2 + 1 < length index
  row_inside = omega (arith, ap length is, length_index_of image, few)

  total : first_entry image x + entry_count image x ≤ 2800
  total = omega (arith, entries.lexicon_within image h a.laid (of_true (right_entries image) a.entries_right) x inside, a.laid.limits.entries_most)

  pub row_low : number index (39168 + 2 * x) ≡ first_entry image x
  row_low =
      let k : x ≤ (header image).lexicons = omega (arith, ap (λ (g : Header). g.lexicons) a.laid.header_is) in
      ap (λ (l : List ℕ). number l (39168 + 2 * x)) is ∙ lexicon_number here x k (omega (arith, total))

  pub row_high : number index (39168 + 2 * x + 2) ≡ first_entry image x + entry_count image x
  row_high =
      let k : x + 1 ≤ (header image).lexicons = omega (arith, ap (λ (g : Header). g.lexicons) a.laid.header_is) in
      let w : 39168 + 2 * x + 2 ≡ 39168 + 2 * (x + 1) = omega arith in
      ap₂ (λ (l : List ℕ) (i : ℕ). number l i) is w ∙ lexicon_number here (x + 1) k (omega (arith, total, entries.first_more image x)) ∙ entries.first_more image x
