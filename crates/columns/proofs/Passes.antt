-- The pairs that two arrays hold, and what a pass keeps for a pair.
use Prim.Native.Nat.{ℕ, ◌+◌, ◌<◌, ◌≤◌, min}
use native.Mathlib.Omega.{arith}
use native.Mathlib.Decide.{ℕ_discrete, dec_lt}
use mathlib.Core.Bool.{Bool, true, false, cond, not}
use mathlib.Core.Path.{◌≡◌, sym, ap, ap₂, ◌∙◌}
use mathlib.Core.List.{List}
use lib.ListN.{length, take}
use lib.Seq.{ext_get_or, length-take-le, get_or-take}
use lib.Dec.{ltb, eqb}
use borrow.Author.Tests.{lt-ltb, le-ltb, eq-eqb, ne_eqb}
use Rattle.model.specs.Lists.{every, byte}
use Rattle.model.specs.Blocks.{header}
use Rattle.model.specs.RuleTables.{Pair, boundary_pair, letter_sets, pairs_and_boundary, column_count, column_for}
use Rattle.model.proofs.Lists.{length_map_below, get_d_map_below, map_from, every_same}
use Rattle.sets.specs.Sides.{pair_number}
use Rattle.columns.specs.Breadths.{columns_by}
use Rattle.columns.specs.Passes.{listed, narrower, Chosen, front}
use Rattle.sets.proofs.Pairs.{length_pairs_and_boundary}
use Rattle.columns.proofs.Choice.{NarrowestSoFar, pass_unmatched, pass_narrower, pass_tie, pass_broader}
use Rattle.columns.proofs.Breadths.{taken_most, length_columns, column_past, columns_at}

abbrev pair_with : ℕ → ℕ → Pair
pair_with x y = record { lexical = x; surface = y }

-- two arrays that hold the sides of the pairs
pub listed_all : (image lexical surface : List ℕ)
    → ((p : ℕ) → p < (header image).pairs + 1 → byte lexical p ≡ (pair_number image p).lexical)
    → ((p : ℕ) → p < (header image).pairs + 1 → byte surface p ≡ (pair_number image p).surface)
    → listed lexical surface ((header image).pairs + 1) ≡ pairs_and_boundary image
listed_all image lexical surface l s =
    let n = (header image).pairs + 1 in
    let all = listed lexical surface n in
    ext_get_or boundary_pair all (pairs_and_boundary image) (size ∙ sym (length_pairs_and_boundary image))
    (λ p h. let k : p < n = omega (arith, size) in get_d_map_below _ n p boundary_pair k ∙ ap₂ (λ (x y : ℕ). pair_with x y) (l p k) (s p k))
  where
    size : length (listed lexical surface ((header image).pairs + 1)) ≡ (header image).pairs + 1
    size = length_map_below _ ((header image).pairs + 1)

least_first : (a b : ℕ) → a ≤ b → min a b ≡ a
least_first a b h = omega arith

least_last : (a b : ℕ) → b ≤ a → min a b ≡ b
least_last a b h = omega arith

-- one column more, by what a pass leaves for a pair
module _ (matching : ℕ → Bool) (broad : ℕ → ℕ) (n c best least : ℕ) (small : broad c < 252) (sofar : NarrowestSoFar matching broad n 252 c best least) where
  pub pass_kept : (m : Bool) (b : ℕ) → matching c ≡ m → b ≡ broad c → NarrowestSoFar matching broad n 252 (c + 1) (cond m (narrower b c n best least) best) (cond m (min b least) least)
  pass_kept false b e q = pass_unmatched matching broad n 252 c best least e sofar
  pass_kept true b e q = go (dec_lt b least) (ℕ_discrete b least)
    where
      go : Dec (b < least) → Dec (b ≡ least) → NarrowestSoFar matching broad n 252 (c + 1) (narrower b c n best least) (min b least)
      go (yes h) d = rw (lt-ltb b least h, least_first b least (omega arith), q) (pass_narrower matching broad n 252 c best least e (omega (arith, q)) sofar)
      go (no h) (yes d) = rw (le-ltb b least (omega arith), eq-eqb b least d, least_last b least (omega arith)) (pass_tie matching broad n 252 c best least e (sym q ∙ d) small sofar)
      go (no h) (no d) = rw (le-ltb b least (omega arith), ne_eqb b least d, least_last b least (omega arith)) (pass_broader matching broad n 252 c best least e (omega (arith, q)) small sofar)

-- the first bytes of an array
pub taken_front : (n : ℕ) (bytes : List ℕ) → n ≤ length bytes → take n bytes ≡ front n bytes
taken_front n bytes h =
    ext_get_or 0 (take n bytes) (front n bytes) (size ∙ sym (length_map_below (byte bytes) n))
    (λ p k. let l : p < n = omega (arith, size) in get_or-take n bytes p 0 l ∙ sym (get_d_map_below (byte bytes) n p 0 l))
  where
    size : length (take n bytes) ≡ n
    size = length-take-le n bytes h

-- the columns taken, as they are put at the front
module _ (image t best : List ℕ) (chosen : Chosen image t best) where
  pub front_columns : front ((header image).pairs + 1) best ≡ columns_by image t
  front_columns =
      let n = (header image).pairs + 1 in
      ext_get_or (column_past image t) (front n best) (columns_by image t) (length_map_below (byte best) n ∙ sym (length_columns image t))
      (λ p h. let k : p < n = omega (arith, length_map_below (byte best) n) in get_d_map_below (byte best) n p (column_past image t) k ∙ chosen.each p k ∙ sym (columns_at image t p))

  -- where none is C, each is a column
  pub none_is : every (λ c. not (eqb c (column_count t))) (columns_by image t) ≡ every (λ c. ltb c (column_count t)) (columns_by image t)
  none_is =
      every_same (λ c. not (eqb c (column_count t))) (λ c. ltb c (column_count t)) (columns_by image t)
      (λ c m.
      let u = map_from (column_for (letter_sets image) (pairs_and_boundary image) t) (pairs_and_boundary image) m in
      less c (column_count t) (omega (arith, u.2, taken_most (letter_sets image) (pairs_and_boundary image) t u.0)))
    where
      less : (c n : ℕ) → c ≤ n → not (eqb c n) ≡ ltb c n
      less c n h = go (ℕ_discrete c n)
        where
          go : Dec (c ≡ n) → not (eqb c n) ≡ ltb c n
          go (yes e) = ap not (eq-eqb c n e) ∙ sym (le-ltb c n (omega arith))
          go (no e) = ap not (ne_eqb c n e) ∙ sym (lt-ltb c n (omega arith))
