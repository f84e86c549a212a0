-- The candidate pairs of a letter, as the index has them.
use Prim.Native.Nat.{ℕ, ◌+◌, ◌*◌, ◌<◌, ◌≤◌}
use native.Mathlib.Omega.{arith}
use mathlib.Core.Bool.{Bool, true, ◌||◌}
use mathlib.Core.Path.{◌≡◌, sym, ap, ◌∙◌, subst}
use mathlib.Core.List.{List}
use lib.ListN.{length, get_or}
use lib.Dec.{T, eqb}
use Rattle.model.specs.Lists.{below, byte, is_zero}
use Rattle.model.specs.Blocks.{Header, header}
use Rattle.model.specs.RuleTables.{pairs, boundary_pair}
use Rattle.model.specs.Tree.{spells}
use Rattle.image.specs.Accepted.{Accepted}
use Rattle.image.specs.Index.{candidates, index_of}
use Rattle.index.proofs.Laws.{length_index_of, candidate_count, candidate_byte, candidate_at, candidates_most}
use Rattle.listing.specs.Search.{head_of}
use Rattle.listing.proofs.Loops.{only_passes}
use Rattle.listing.proofs.Searching.{spells_so}

module _ {image index : List ℕ} {h : Header} {a : ℕ} (ok : Accepted image h) (indexed : index ≡ index_of image) (letter : a ≤ h.letters) where
  here : Accepted image (header image)
  here = subst (Accepted image) ok.laid.header_is ok

  letters_are : (header image).letters ≡ h.letters
  letters_are = ap (λ (g : Header). g.letters) (sym ok.laid.header_is)

  pairs_are : (header image).pairs ≡ h.pairs
  pairs_are = ap (λ (g : Header). g.pairs) (sym ok.laid.header_is)

  long : length index ≡ 39424
  long = ap length indexed ∙ length_index_of image

  pub count_inside : 256 * (32 + a) < length index
  count_inside = omega (arith, long, ok.laid.limits.letters_most)

  pub count_is : byte index (256 * (32 + a)) ≡ length (candidates image a)
  count_is = ap (λ (l : List ℕ). byte l (256 * (32 + a))) indexed ∙ candidate_count here a (omega (arith, letters_are))

  module _ {k : ℕ} (inside : k < length (candidates image a)) where
    pub pair_few : k < 250
    pair_few = omega (arith, candidates_most image a, pairs_are, ok.laid.limits.pairs_most)

    pub pair_inside : 256 * (32 + a) + 1 + k < length index
    pair_inside = omega (arith, long, pair_few, ok.laid.limits.letters_most)

    pub pair_is : byte index (256 * (32 + a) + 1 + k) ≡ get_or (candidates image a) k 0
    pair_is = ap (λ (l : List ℕ). byte l (256 * (32 + a) + 1 + k)) indexed ∙ candidate_byte here a k (omega (arith, letters_are)) inside

    pub pair_below : get_or (candidates image a) k 0 < h.pairs
    pair_below = omega (arith, candidate_at image a k inside, pairs_are)

-- candidate k of letter a is pair p
pub record Candidate (image : List ℕ) (a k p : ℕ) : Type 0 where
  pub inside : k < length (candidates image a)
  pub this : p ≡ get_or (candidates image a) k 0

-- it spells on where its letter comes next
pub candidate_spells : {image : List ℕ} {a k p : ℕ} (rest : List ℕ) → a ≡ head_of rest → Candidate image a k p → T (spells rest (get_or (pairs image) p boundary_pair).lexical)
unfolding candidates
candidate_spells {image} {a} {k} {p} rest letter c =
    let side = (get_or (pairs image) p boundary_pair).lexical in
    let test : ℕ → Bool = λ p. is_zero (get_or (pairs image) p boundary_pair).lexical || eqb (get_or (pairs image) p boundary_pair).lexical a in
    let passes : test p ≡ true = rw c.this (only_passes test (below (header image).pairs) k c.inside) in
    spells_so rest side (subst (λ (x : ℕ). (is_zero side || eqb side x) ≡ true) letter passes)
