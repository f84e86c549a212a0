-- The survivors of one lexicon after another of a set: each lexicon's come after those before it, and none of the set's entries that leads on is left out.
use Prim.Native.Nat.{ℕ, zero, suc, ◌+◌, ◌-◌, ◌^◌, ◌<◌, ◌≤◌}
use native.Mathlib.Omega.{arith}
use native.Mathlib.Decide.{dec_lt}
use mathlib.Core.Bool.{Bool, true, false, not}
use mathlib.Core.Path.{◌≡◌, refl, sym, ap, ◌∙◌, subst}
use mathlib.Core.List.{List, [], ◌∷◌, ◌++◌, Memᴰ}
use lib.ListN.{length, get_or, take, drop, length-drop}
use lib.Seq.{length-take-le, take-append-add, take-append-le}
use borrow.Rule.Slice.PartMut.{put_mid, post_of}
use lib.Dec.{T, eqb}
use borrow.Author.Tests.{eq-eqb}
use Rattle.model.specs.Lists.{bit}
use Rattle.model.specs.Blocks.{Header, header}
use Rattle.model.specs.Lexicon.{first_entry, entry_count, in_lexicon}
use Rattle.model.specs.Query.{anything}
use Rattle.model.specs.Refusals.{right_entries}
use Rattle.model.proofs.Booleans.{and_out, of_true, right_true, true_of}
use Rattle.image.specs.Accepted.{Accepted}
use Rattle.lexicon.proofs.Laws.{first_suc, first_after, first_last, lexicon_in, lexicon_out}
use Rattle.digits.specs.Ways.{Lowest}
use Rattle.digits.proofs.Bits.{digit_taken}
use Rattle.rules.specs.Paths.{in_some}
use Rattle.rules.proofs.PathLaws.{some_here}
use Rattle.listing.specs.Places.{ways_after}
use Rattle.listing.specs.Opening.{Known, SetOf}
use Rattle.listing.proofs.Ranges.{some_none, some_taken}
use Rattle.forms.specs.Forms.{flags_in}
use Rattle.filter.specs.Listed.{Rising}
use Rattle.filter.specs.Sieve.{Chosen}
use Rattle.filter.specs.Survivors.{LeadsOn, Surviving, SurvivingSet}
use Rattle.filter.proofs.Listed.{rising_in, rising_within}

-- ascending lists one after the other
rising_append : (low mid next high : ℕ) (xs ys : List ℕ) → low ≤ next → mid ≤ next → next ≤ high → Rising low mid xs → Rising next high ys → Rising low high (xs ++ ys)
rising_append low mid next high [] [] a b d r s = tt
rising_append low mid next high [] (y ∷ ys) a b d r s = (omega (arith, s.0), s.1)
rising_append low mid next high (x ∷ xs) ys a b d r s = (r.0, (omega (arith, r.1.0), rising_append (suc x) mid next high xs ys (omega (arith, r.1.0)) b d r.1.1 s))

mem_left : {e : ℕ} (xs ys : List ℕ) → Memᴰ e xs → Memᴰ e (xs ++ ys)
mem_left {e = e} [] ys x' = elim x' [ ]
mem_left (x ∷ xs) ys (Memᴰ.head h) = Memᴰ.head h
mem_left (x ∷ xs) ys (Memᴰ.tail m) = Memᴰ.tail (mem_left xs ys m)

mem_right : {e : ℕ} (xs ys : List ℕ) → Memᴰ e ys → Memᴰ e (xs ++ ys)
mem_right [] ys m = m
mem_right (x ∷ xs) ys m = Memᴰ.tail (mem_right xs ys m)

-- what holds of each of two lists holds of both together
each_append : (P : ℕ → Type 0) (xs ys : List ℕ) → ((k : ℕ) → k < length xs → P (get_or xs k 0)) → ((k : ℕ) → k < length ys → P (get_or ys k 0)) → (k : ℕ)
    → k < length (xs ++ ys) → P (get_or (xs ++ ys) k 0)
each_append P [] ys a b k h = b k h
each_append P (x ∷ xs) ys a b zero h = a 0 (omega arith)
each_append P (x ∷ xs) ys a b (suc k) h = each_append P xs ys (λ j l. a (suc j) (omega arith)) b k (omega arith)

-- a list whose first n are kept, and what was written from there on
pub room_size : (n : ℕ) (list : List ℕ) → n ≤ length list → length (take (length list - n) (drop n list)) ≡ length list - n
room_size n list h = length-take-le (length list - n) (drop n list) (omega (arith, length-drop n list))

pub take_put : (n k r : ℕ) (list part : List ℕ) → n ≤ length list → r ≤ length part → take (n + r) (put_mid n k list part) ≡ take n list ++ take r part
take_put n k r list part h l =
    let size : length (take n list) ≡ n = length-take-le n list h in
    ap (λ (m : ℕ). take (m + r) (put_mid n k list part)) (sym size)
    ∙ take-append-add (take n list) (part ++ post_of n k list) r
    ∙ ap (λ (x : List ℕ). take n list ++ x) (take-append-le r part (post_of n k list) l)

module _ (image masks flags reach : List ℕ) (first : ℕ) where
  abbrev lexicons : ℕ
  lexicons = (header image).lexicons

  -- of a set, when those left are still to be passed: they stand at `next` or above, and all entries that were named below it
  pub record Choosing (bits rest : ℕ) (xs : List ℕ) : Type 0 where
    pub next : ℕ
    pub next_in : next ≤ lexicons
    pub above : (x : ℕ) → T (bit rest x) → (next ≤ x) × T (bit bits x)
    pub rising : Rising 0 (first_entry image next) xs
    pub opens : (k : ℕ) → k < length xs → T (in_some image lexicons bits (get_or xs k 0))
    pub others : (e : ℕ) → T (in_some image lexicons bits e) → (Memᴰ e xs → ⊥) → LeadsOn image masks flags reach first e → T (in_some image lexicons rest e)

  pub choosing_none : (bits : ℕ) → Choosing bits bits []
  choosing_none bits = record { next = 0; next_in = omega arith; above = λ x t. (omega arith, t); rising = tt; opens = λ k h. absurd (omega arith); others = λ e t none l. t }

  first_upward : (x y : ℕ) → x ≤ y → first_entry image x ≤ first_entry image y
  first_upward x y h = go (dec_lt x y)
    where
      go : Dec (x < y) → first_entry image x ≤ first_entry image y
      go (yes l) = omega (arith, first_after image x y l)
      go (no l) = let same : x ≡ y = omega arith in omega (arith, ap (first_entry image) same)

  -- one lexicon more
  module _ (bits rest : ℕ) (xs : List ℕ) (c : Choosing bits rest xs) (known : Known bits lexicons) (x : ℕ) (lowest : Lowest rest x) (low high : ℕ) (low_is : low ≡ first_entry image x)
      (high_is : high ≡ first_entry image x + entry_count image x)
      (ys : List ℕ) (s : Surviving image masks flags reach first low high ys) where
    inside : T (bit bits x)
    inside = (c.above x lowest.there).1

    in_range : (e : ℕ) → low ≤ e → e < high → T (in_lexicon image x e)
    in_range e a b = lexicon_in image x e (omega arith) (omega arith)

    named : (e : ℕ) → T (in_lexicon image x e) → T (in_some image lexicons bits e)
    named e t = of_true (in_some image lexicons bits e) (some_here image lexicons bits e x (known x inside) (rw (true_of (bit bits x) inside) (true_of (in_lexicon image x e) t)))

    left_above : (y : ℕ) → T (bit (rest - 2 ^ x) y) → (suc x ≤ y) × T (bit bits y)
    left_above y t = (go (dec_lt y x) (dec_lt x y), (c.above y there).1)
      where
        parts : T (bit rest y) × T (not (eqb x y))
        parts = and_out (bit rest y) (not (eqb x y)) (subst T (digit_taken rest x lowest.there y) t)

        there : T (bit rest y)
        there = parts.0

        go : Dec (y < x) → Dec (x < y) → suc x ≤ y
        go (yes l) d = absurd (subst T (lowest.none_below y l) there)
        go (no l) (yes m) = m
        go (no l) (no m) = let same : x ≡ y = omega arith in absurd (subst (λ (b : Bool). T (not b)) (eq-eqb x y same) parts.1)

    others : (e : ℕ) → T (in_some image lexicons bits e) → (Memᴰ e (xs ++ ys) → ⊥) → LeadsOn image masks flags reach first e → T (in_some image lexicons (rest - 2 ^ x) e)
    others e t none l = go (in_lexicon image x e) refl
      where
        go : (b : Bool) → in_lexicon image x e ≡ b → T (in_some image lexicons (rest - 2 ^ x) e)
        go true here = let r = lexicon_out image x e (of_true (in_lexicon image x e) here) in absurd (s.others e (omega (arith, r.0)) (omega (arith, r.1)) (λ m. none (mem_right xs ys m)) l)
        go false there = subst T (some_taken image lexicons rest x lowest.there e there) (c.others e t (λ m. none (mem_left xs ys m)) l)

    pub choosing_more : Choosing bits (rest - 2 ^ x) (xs ++ ys)
    choosing_more = record {
      next = suc x;
      next_in = known x inside;
      above = left_above;
      rising =
          rising_append 0 (first_entry image c.next) low (first_entry image (suc x)) xs ys (omega arith) (omega (arith, first_upward c.next x (c.above x lowest.there).0))
          (omega (arith, first_suc image x)) c.rising
          (subst (λ (n : ℕ). Rising low n ys) (high_is ∙ sym (first_suc image x)) s.rising);
      opens = each_append (λ e. T (in_some image lexicons bits e)) xs ys c.opens
          (λ k h. let r = rising_in low high ys s.rising k h in named (get_or ys k 0) (in_range (get_or ys k 0) r.0 r.1));
      others = others;
    }

  pub choosing_all : (h : Header) → Accepted image h → (bits rest : ℕ) (xs : List ℕ) → Choosing bits rest xs → rest ≡ 0 → SurvivingSet image masks flags reach first bits xs
  choosing_all h a bits rest xs c z = record {
    rising = rising_within 0 (first_entry image c.next) xs c.rising (header image).entries (omega (arith, first_upward c.next lexicons c.next_in, last));
    opens = c.opens;
    others = λ e t none l. subst T (ap (λ (n : ℕ). in_some image lexicons n e) z ∙ some_none image lexicons e) (c.others e t none l);
  }
    where
      last : first_entry image lexicons ≡ (header image).entries
      last = subst (λ (g : Header). first_entry image g.lexicons ≡ g.entries) a.laid.header_is (first_last image h a.laid (of_true (right_entries image) a.entries_right))

-- the survivors of the lexicons that come next, where any path will do
pub set_chosen : (image forms masks reach : List ℕ) (last first bits : ℕ) → (length forms ≡ 0 → ⊥) → SetOf image (ways_after image last) bits → (xs : List ℕ)
    → SurvivingSet image masks (flags_in forms) reach first bits xs → Chosen image anything forms masks reach last first xs
set_chosen image forms masks reach last first bits some set xs s = record {
  some = some;
  rising = s.rising;
  opens = λ n k h. right_true (ways_after image last (get_or xs k 0)) true refl ∙ true_of (ways_after image last (get_or xs k 0)) (subst T (sym (set.some (get_or xs k 0))) (s.opens k h));
  others = λ n e t none l. s.others e (subst T (set.some e) (and_out (ways_after image last e) true t).0) none l;
}
