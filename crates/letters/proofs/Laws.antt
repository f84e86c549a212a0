-- Laws of letters and pairs: how many there are, which bytes of the image they are, and what test 5 says of a pair's sides.
use Prim.Native.Nat.{ℕ, ◌+◌, ◌*◌, ◌<◌, ◌≤◌}
use mathlib.Core.Bool.{Bool, true, false, ◌&&◌, ◌||◌, not}
use mathlib.Core.Path.{◌≡◌, refl, sym, ap, ap₂, ◌∙◌}
use mathlib.Core.Logic.{◌⊎◌, inl, inr}
use mathlib.Core.List.{List}
use lib.ListN.{length, get_or}
use lib.Dec.{T}
use native.Mathlib.Omega.{arith}
use borrow.Author.Tests.{eqb-true}
use Rattle.model.specs.Lists.{byte, number, every, distinct, within, is_zero}
use Rattle.model.specs.Blocks.{Header, header, kinds, record_width, first_block, record_start, record_at}
use Rattle.model.specs.RuleTables.{Pair, code_points, pair, pairs, boundary_pair, is_pair, same_pair}
use Rattle.model.specs.Refusals.{right_pairs}
use Rattle.model.proofs.Booleans.{and_out, and_in, out3, within_out, eq→eqb, not_both}
use Rattle.model.proofs.Lists.{length_map_below, get_d_map_below}
use Rattle.image.specs.Laid.{Limited, Laid}
use Rattle.image.proofs.Records.{total_most, record_end, record_inside, record_byte, record_first}
use Rattle.model.proofs.Rest.{every_get_d}

-- an image that is laid out by a header is laid out by its own
pub laid_here : {image : List ℕ} {h : Header} → Laid image h → Laid image (header image)
laid_here l = rw l.header_is at l

-- the counts that a loop goes by
module _ {image : List ℕ} {h : Header} (l : Laid image h) where
  pub laid_letters : h.letters ≡ (header image).letters
  laid_letters = ap (λ (k : Header). k.letters) l.header_is

  pub laid_pairs : h.pairs ≡ (header image).pairs
  laid_pairs = ap (λ (k : Header). k.pairs) l.header_is

-- pair p
abbrev pub pair_at : List ℕ → ℕ → Pair
pair_at image p = get_or (pairs image) p boundary_pair

module _ (image : List ℕ) where
  pub length_code_points : length (code_points image) ≡ (header image).letters
  unfolding code_points
  length_code_points = length_map_below (λ i. number (record_at image 2 i) 0) (header image).letters

  pub length_pairs : length (pairs image) ≡ (header image).pairs
  unfolding pairs
  length_pairs = length_map_below (pair image) (header image).pairs

  -- pair p is record p of kind 3
  pub pair_at_lem : (p : ℕ) → p < (header image).pairs → pair_at image p ≡ pair image p
  unfolding pairs
  pair_at_lem p h = get_d_map_below (pair image) (header image).pairs p boundary_pair h

-- as many as the header that it is laid out by says
module _ {image : List ℕ} {h : Header} (l : Laid image h) where
  pub letters_there : length (code_points image) ≡ h.letters
  letters_there = length_code_points image ∙ sym (laid_letters l)

  pub pairs_there : length (pairs image) ≡ h.pairs
  pairs_there = length_pairs image ∙ sym (laid_pairs l)

-- letters as bytes of an image that is laid out: they have one block
module _ {image : List ℕ} (laid : Laid image (header image)) where
  abbrev start : ℕ → ℕ → ℕ
  start = record_start (header image)

  pub letter_start : (i : ℕ) → i < (header image).letters → start 2 i ≡ 512 * first_block (header image) 2 + (4 + record_width (header image) 2 * i)
  unfolding kinds
  letter_start i h = record_first (header image) 2 i (omega (arith, laid.limits.letters_most))

  pub letter_inside : (i : ℕ) → i < (header image).letters → start 2 i + 1 < length image
  unfolding kinds
  letter_inside i h = record_inside laid 2 i 1 h (omega arith)

  -- code point i is the number where its record begins
  pub code_point_at : (i at : ℕ) → i < (header image).letters → at ≡ start 2 i → number image at ≡ get_or (code_points image) i 0
  unfolding kinds code_points
  code_point_at i at h e =
      ap (number image) e
      ∙ sym
      (get_d_map_below (λ i. number (record_at image 2 i) 0) (header image).letters i 0 h
      ∙ ap₂ (λ (x y : ℕ). x + 256 * y) (record_byte laid 2 i 0 (omega arith) ∙ ap (byte image) (omega arith)) (record_byte laid 2 i 1 (omega arith)))

-- where pair p stands: pairs have one block, so from its start on
module _ (h : Header) (limits : Limited h) (p : ℕ) (there : p < h.pairs) where
  pub pair_start : 1028 + record_width h 3 * p ≡ record_start h 3 p
  unfolding kinds
  pair_start = omega (arith, record_first h 3 p (omega (arith, limits.pairs_most)))

  pub pair_end : record_start h 3 p + record_width h 3 ≤ 65536
  unfolding kinds
  pair_end = omega (arith, record_end h limits 3 p there, total_most h limits)

-- its record has both sides
pub pair_wide : (h : Header) → 2 ≤ record_width h 3
unfolding kinds
pair_wide h = omega arith

-- byte j of pair p in an image that is laid out; the first two are the sides
module _ {image : List ℕ} {h : Header} (laid : Laid image h) (p : ℕ) (there : p < h.pairs) where
  pub pair_inside : (j : ℕ) → j < record_width h 3 → record_start h 3 p + j < length image
  unfolding kinds
  pair_inside j k = record_inside laid 3 p j there k

  pair_is : pair_at image p ≡ pair image p
  pair_is = pair_at_lem image p (omega (arith, laid_pairs laid))

  pub lexical_byte : byte image (record_start h 3 p + 0) ≡ (pair_at image p).lexical
  lexical_byte = sym (ap (λ (q : Pair). q.lexical) pair_is ∙ record_byte laid 3 p 0 (omega (arith, pair_wide h)))

  pub surface_byte : byte image (record_start h 3 p + 1) ≡ (pair_at image p).surface
  surface_byte = sym (ap (λ (q : Pair). q.surface) pair_is ∙ record_byte laid 3 p 1 (omega (arith, pair_wide h)))

-- a pair is its two sides
pub sides_are : (p : Pair) {a b : ℕ} → a ≡ p.lexical → b ≡ p.surface → ◌≡◌ {A = Pair} (record { lexical = a; surface = b }) p
sides_are p e f i = record { lexical = e i; surface = f i }

-- a side: the null, or a letter from 2 on
abbrev pub IsSide : ℕ → ℕ → Type 0
IsSide letters n = (n ≡ 0) ⊎ ((2 ≤ n) × (n ≤ letters))

-- "A pair has sides 0 or 2-L, not both 0."
pub record IsPair (letters : ℕ) (p : Pair) : Type 0 where
  pub lexical_is : IsSide letters p.lexical
  pub surface_is : IsSide letters p.surface
  pub not_null : p.lexical ≡ 0 → p.surface ≡ 0 → ⊥

side_out : (letters n : ℕ) → T (is_zero n || within 2 letters n) → IsSide letters n
side_out letters n = go (is_zero n) refl
  where
    go : (b : Bool) → is_zero n ≡ b → T (b || within 2 letters n) → IsSide letters n
    go true e t = inl (eqb-true n 0 e)
    go false e t = inr (within_out 2 letters n t)

pub is_pair_out : (letters : ℕ) (p : Pair) → T (is_pair letters p) → IsPair letters p
unfolding is_pair
is_pair_out letters p t =
    let a = is_zero p.lexical in
    let b = is_zero p.surface in
    let u = out3 (a || within 2 letters p.lexical) (b || within 2 letters p.surface) (not (a && b)) t in
    record {
      lexical_is = side_out letters p.lexical u.0;
      surface_is = side_out letters p.surface u.1;
      not_null = λ e f. not_both (a && b) (and_in a b (eq→eqb p.lexical 0 e) (eq→eqb p.surface 0 f)) u.2;
    }

-- what test 5 says of pair p
pub right_pair : (image : List ℕ) → T (right_pairs image) → (p : ℕ) → p < (header image).pairs → IsPair (header image).letters (pair_at image p)
unfolding right_pairs
right_pair image t p h =
    let letters = (header image).letters in
    let u = and_out (every (is_pair letters) (pairs image)) (distinct same_pair (pairs image)) t in
    is_pair_out letters (pair_at image p) (every_get_d (is_pair letters) (pairs image) p boundary_pair (omega (arith, length_pairs image)) u.0)
