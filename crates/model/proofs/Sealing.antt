-- Sealing: a sealed image of right length has right block numbers and checks, and sealing twice is sealing once.
use Prim.Native.Nat.{ℕ, ◌+◌, ◌*◌, ◌/◌, ◌%◌, ◌<◌, ◌≤◌}
use native.Mathlib.Nat.{mod-lt}
use mathlib.Core.Bool.{Bool, true, false, ◌&&◌, cond}
use mathlib.Core.Path.{◌≡◌, refl, sym, ap, ap₂, ◌∙◌, subst}
use mathlib.Core.List.{List, [], ◌∷◌, ◌++◌, map, append-nil, Memᴰ}
use lib.ListN.{length, get_or, take, drop, length-append, length-take, length-drop, get_or-append}
use lib.Seq.{take_all, take_at, get_or-append-add}
use lib.Dec.{T, eqb, eqb→eq}
use native.Mathlib.Omega.{arith}
use Rattle.model.specs.Lists.{below, every, part, flat_map, within, byte, number, number_bytes}
use Rattle.model.specs.Blocks.{block, block_count, block_number, block_check, weighted_sum, check_of, numbered, sealed_block, sealed_image}
use Rattle.model.specs.Refusals.{right_length, right_checks}
use Rattle.model.specs.Calls.{after_sealing}
use Rattle.model.proofs.Booleans.{and_out, and_in, eq→eqb, within_out, true_of, of_true}
use Rattle.model.proofs.Lists.{length_below, below_from, get_d_below, every_in}
use Rattle.model.proofs.Parts.{flat_map_same, Wide, length_parts, part_at}

-- two bytes hold a number below 65,536
pub number_back : (n : ℕ) → n < 65536 → number (number_bytes n) 0 ≡ n
number_back n h = omega arith

-- the check is made of the first 510 bytes alone
pub check_front : (n t : List ℕ) → length n ≡ 510 → check_of (n ++ t) ≡ check_of n
unfolding check_of
check_front n t e = ap (λ (l : List ℕ). (1 + weighted_sum 0 l) % 65521) (take_at n t 510 e ∙ sym (take_all 510 n (omega arith)))

module _ (k : ℕ) (b : List ℕ) (whole : length b ≡ 512) where
  pub length_numbered : length (numbered k b) ≡ 510
  unfolding numbered
  length_numbered = omega (arith, length-drop 2 (take 510 b), length-take 510 b)

  pub length_sealed : length (sealed_block k b) ≡ 512
  unfolding sealed_block
  length_sealed = omega (arith, length-append (numbered k b) (number_bytes (check_of (numbered k b))), length_numbered)

  sealed_number : k < 65536 → block_number (sealed_block k b) ≡ k
  unfolding sealed_block numbered
  sealed_number h = number_back k h

  check_same : check_of (sealed_block k b) ≡ check_of (numbered k b)
  unfolding sealed_block
  check_same = check_front (numbered k b) (number_bytes (check_of (numbered k b))) length_numbered

  check_small : check_of (numbered k b) < 65536
  unfolding check_of
  check_small = omega (arith, mod-lt (1 + weighted_sum 0 (take 510 (numbered k b))) {m = 65521} (omega arith))

  sealed_byte : (i : ℕ) → byte (numbered k b ++ number_bytes (check_of (numbered k b))) (510 + i) ≡ byte (number_bytes (check_of (numbered k b))) i
  sealed_byte i = ap (λ (n : ℕ). byte (numbered k b ++ number_bytes (check_of (numbered k b))) (n + i)) (sym length_numbered) ∙ get_or-append-add (numbered k b) (number_bytes (check_of (numbered k b))) i 0

  sealed_check : block_check (sealed_block k b) ≡ check_of (sealed_block k b)
  unfolding sealed_block
  sealed_check = ap₂ (λ (x y : ℕ). x + 256 * y) (sealed_byte 0) (sealed_byte 1) ∙ number_back (check_of (numbered k b)) check_small ∙ sym check_same

  numbered_again : numbered k (sealed_block k b) ≡ numbered k b
  unfolding sealed_block numbered
  numbered_again = ap (λ (l : List ℕ). number_bytes k ++ drop 2 l) (take_at (numbered k b) (number_bytes (check_of (numbered k b))) 510 length_numbered)

  sealed_again : sealed_block k (sealed_block k b) ≡ sealed_block k b
  unfolding sealed_block
  sealed_again = ap (λ (n : List ℕ). n ++ number_bytes (check_of n)) numbered_again

-- an image of right length: its blocks are whole
module _ (image : List ℕ) (right : T (right_length image)) where
  length_right_lem : (length image ≡ 512 * block_count image) × (block_count image ≤ 128) × (512 ≤ length image)
  unfolding right_length
  length_right_lem =
      let t = and_out (within 1 65536 (length image)) (eqb (length image % 512) 0) right in
      let u = within_out 1 65536 (length image) t.0 in
      let e = eqb→eq (length image % 512) 0 t.1 in
      (omega arith, omega arith, omega arith)

  pub block_whole : (k : ℕ) → k < block_count image → length (block image k) ≡ 512
  unfolding block
  block_whole k h = let r = length_right_lem in omega (arith, length-take 512 (drop (512 * k) image), length-drop (512 * k) image)

  wide : Wide 512 (λ k. sealed_block k (block image k)) (below (block_count image))
  wide k m = length_sealed k (block image k) (block_whole k (below_from (block_count image) k m))

  pub length_sealed_image : length (sealed_image image) ≡ length image
  unfolding sealed_image
  length_sealed_image = length_parts 512 (λ k. sealed_block k (block image k)) (below (block_count image)) wide ∙ ap (λ (n : ℕ). 512 * n) (length_below (block_count image)) ∙ sym length_right_lem.0

  -- block by block
  pub block_sealed : (k : ℕ) → k < block_count image → block (sealed_image image) k ≡ sealed_block k (block image k)
  unfolding sealed_image block
  block_sealed k h =
      let f : ℕ → List ℕ = λ k. sealed_block k (block image k) in
      let n = block_count image in
      ap (λ (l : List ℕ). part 512 l k) (sym (append-nil (flat_map f (below n))))
      ∙ part_at 512 f (below n) wide [] k 0 (omega (arith, length_below n))
      ∙ ap f (get_d_below n k h)

  -- test 2
  pub sealed_checks : T (right_checks (sealed_image image))
  unfolding right_checks
  sealed_checks =
      every_in (λ k. eqb (block_number (block (sealed_image image) k)) k && eqb (block_check (block (sealed_image image) k)) (check_of (block (sealed_image image) k))) (below (block_count (sealed_image image)))
      (λ k m.
      let h : k < block_count image = subst (λ (n : ℕ). k < n / 512) length_sealed_image (below_from (block_count (sealed_image image)) k m) in
      let r = length_right_lem.1 in
      let w = block_whole k h in
      rw (block_sealed k h) (and_in (eqb (block_number (sealed_block k (block image k))) k) (eqb (block_check (sealed_block k (block image k))) (check_of (sealed_block k (block image k))))
      (eq→eqb (block_number (sealed_block k (block image k))) k (sealed_number k (block image k) w (omega arith)))
      (eq→eqb (block_check (sealed_block k (block image k))) (check_of (sealed_block k (block image k))) (sealed_check k (block image k) w))))

  sealed_twice : sealed_image (sealed_image image) ≡ sealed_image image
  unfolding sealed_image
  sealed_twice =
      ap (λ (n : ℕ). flat_map (λ k. sealed_block k (block (sealed_image image) k)) (below (n / 512))) length_sealed_image
      ∙ flat_map_same (λ k. sealed_block k (block (sealed_image image) k)) (λ k. sealed_block k (block image k)) (below (block_count image))
      (λ k m. let h = below_from (block_count image) k m in ap (sealed_block k) (block_sealed k h) ∙ sealed_again k (block image k) (block_whole k h))

-- a right length is one of whole blocks
pub right_blocks : (image : List ℕ) → right_length image ≡ true → length image ≡ 512 * (length image / 512)
right_blocks image e = (length_right_lem image (of_true (right_length image) e)).0

pub right_few : (image : List ℕ) → right_length image ≡ true → length image / 512 ≤ 128
right_few image e = (length_right_lem image (of_true (right_length image) e)).1

pub right_some : (image : List ℕ) → right_length image ≡ true → 512 ≤ length image
right_some image e = (length_right_lem image (of_true (right_length image) e)).2

-- the length decides, and sealing keeps it
right_sealed : (image : List ℕ) → T (right_length image) → T (right_length (sealed_image image))
unfolding right_length
right_sealed image t = rw (length_sealed_image image t) t

-- sealing twice is sealing once, whatever the bytes
pub sealing_twice : (image : List ℕ) → after_sealing (after_sealing image) ≡ after_sealing image
unfolding after_sealing
sealing_twice image = go (right_length image) refl
  where
    go : (b : Bool) → right_length image ≡ b → cond (right_length (cond b (sealed_image image) image)) (sealed_image (cond b (sealed_image image) image)) (cond b (sealed_image image) image) ≡ cond b (sealed_image image) image
    go true e = let t = of_true (right_length image) e in rw (true_of (right_length (sealed_image image)) (right_sealed image t)) (sealed_twice image t)
    go false e = rw e refl
