-- What sealing stores: a number at the front of a block, a check at its end, and one block after another.
use Prim.Native.Nat.{ℕ, ◌+◌, ◌*◌, ◌-◌, ◌/◌, ◌%◌, ◌<◌, ◌≤◌}
use native.Mathlib.Numerals.{add-one}
use mathlib.Core.Path.{◌≡◌, refl, sym, ap, ap₂, ◌∙◌}
use mathlib.Core.List.{List, [], ◌∷◌, ◌++◌, append_assoc, append-nil}
use lib.ListN.{length, take, drop, set, length-take, length-drop, length-append, take-append-drop, drop_of_length-le}
use lib.Seq.{set_at, drop-drop, take_at, drop_at}
use native.Mathlib.Omega.{arith}
use Rattle.model.specs.Lists.{below, part, flat_map}
use Rattle.model.specs.Blocks.{block, check_of, numbered, sealed_block, sealed_image, block_count}
use borrow.Rule.Slice.PartMut.{put_mid}
use Rattle.model.proofs.Lists.{flat_map_below, length_below, below_from}
use Rattle.model.proofs.Parts.{length_parts}
use Rattle.model.proofs.Sealing.{check_front, length_numbered, length_sealed}

-- the number, stored
pub number_stored : (k : ℕ) (b : List ℕ) → length b ≡ 512 → set (set b 0 (k % 256)) 1 (k / 256 % 256) ≡ numbered k b ++ drop 510 b
unfolding numbered
number_stored k [] h = absurd (omega arith)
number_stored k (x ∷ []) h = absurd (omega arith)
number_stored k (x ∷ y ∷ b) h = ap {B = List ℕ} (λ l. k % 256 ∷ k / 256 % 256 ∷ l) (sym (take-append-drop 508 b))

-- two stores over the last two numbers
pub end_stored : (n t : List ℕ) (a c : ℕ) → length n ≡ 510 → length t ≡ 2 → set (set (n ++ t) 510 a) 511 c ≡ n ++ (a ∷ c ∷ [])
end_stored n [] a c e h = absurd (omega arith)
end_stored n (x ∷ []) a c e h = absurd (omega arith)
end_stored n (x ∷ y ∷ z ∷ t) a c e h = absurd (omega arith)
end_stored n (x ∷ y ∷ []) a c e h =
    let l : length (n ++ (a ∷ [])) ≡ 511 = omega (arith, length-append n (a ∷ [])) in
    ap (λ (m : List ℕ). set m 511 c) (set_at n x (y ∷ []) a 510 e ∙ sym (append_assoc n (a ∷ []) (y ∷ [])))
    ∙ set_at (n ++ (a ∷ [])) y [] c 511 l
    ∙ append_assoc n (a ∷ []) (c ∷ [])

-- number, then check: what `seal_block` stores
pub block_stored : (k : ℕ) (b one two : List ℕ) (check : ℕ) → length b ≡ 512 → one ≡ set (set b 0 (k % 256)) 1 (k / 256 % 256) → check ≡ check_of one
    → two ≡ set (set one 510 (check % 256)) 511 (check / 256 % 256) → two ≡ sealed_block k b
unfolding sealed_block
block_stored k b one two check h e1 e2 e3 =
    let n = numbered k b in
    let l = length_numbered k b h in
    let s : one ≡ n ++ drop 510 b = e1 ∙ number_stored k b h in
    let c : check ≡ check_of n = e2 ∙ ap check_of s ∙ check_front n (drop 510 b) l in
    e3 ∙ ap₂ (λ (m : List ℕ) (d : ℕ). set (set m 510 (d % 256)) 511 (d / 256 % 256)) s c ∙ end_stored n (drop 510 b) (check_of n % 256) (check_of n / 256 % 256) l (omega (arith, length-drop 510 b))

-- blocks sealed one after another, the first k of them
abbrev pub seal_of : List ℕ → ℕ → List ℕ
seal_of image k = sealed_block k (block image k)

unfoldable pub sealed_to : List ℕ → ℕ → List ℕ
sealed_to image k = flat_map (seal_of image) (below k) ++ drop (512 * k) image

pub sealed_none : (image : List ℕ) → image ≡ sealed_to image 0
unfolding sealed_to
sealed_none image = refl

module _ (image : List ℕ) (n : ℕ) (whole : length image ≡ 512 * n) where
  abbrev seal : ℕ → List ℕ
  seal k = seal_of image k

  pub sealed_all : sealed_to image n ≡ sealed_image image
  unfolding sealed_to sealed_image
  sealed_all =
      let c : n ≡ block_count image = omega arith in
      ap₂ (λ (x y : List ℕ). x ++ y) (ap (λ (m : ℕ). flat_map seal (below m)) c) (drop_of_length-le image {i = 512 * n} (omega arith)) ∙ append-nil (flat_map seal (below (block_count image)))

  length_seal : (k : ℕ) → k < n → length (seal k) ≡ 512
  unfolding block
  length_seal k h = length_sealed k (block image k) (omega (arith, length-take 512 (drop (512 * k) image), length-drop (512 * k) image))

  length_front : (k : ℕ) → k ≤ n → length (flat_map seal (below k)) ≡ 512 * k
  length_front k h = length_parts 512 seal (below k) (λ j m. length_seal j (let b = below_from k j m in omega arith)) ∙ ap (λ (m : ℕ). 512 * m) (length_below k)

  -- a block more: the part of the image that is lent, and what comes back in its place
  pub sealed_more : (k : ℕ) (now part : List ℕ) → k < n → now ≡ sealed_to image k → part ≡ sealed_block k (take (512 * k + 512 - 512 * k) (drop (512 * k) now)) → put_mid (512 * k) (512 * k + 512 - 512 * k) now part ≡ sealed_to image (k + 1)
  unfolding sealed_to block
  sealed_more k now part h e f =
      let front = flat_map seal (below k) in
      let l = length_front k (omega arith) in
      let w : 512 * k + 512 - 512 * k ≡ 512 = omega arith in
      let m : 512 * k + 512 ≡ 512 * (k + 1) = omega arith in
      let t : take (512 * k) now ≡ front = ap (take (512 * k)) e ∙ take_at front (drop (512 * k) image) (512 * k) l in
      let d : drop (512 * k) now ≡ drop (512 * k) image = ap (drop (512 * k)) e ∙ drop_at front (drop (512 * k) image) (512 * k) l in
      let g : part ≡ seal k = f ∙ ap₂ (λ (x : ℕ) (y : List ℕ). sealed_block k (take x y)) w d in
      let r : drop (512 * k + 512 - 512 * k) (drop (512 * k) now) ≡ drop (512 * (k + 1)) image = ap₂ (λ (x : ℕ) (y : List ℕ). drop x y) w d ∙ drop-drop 512 (512 * k) image ∙ ap (λ (x : ℕ). drop x image) m in
      ap₂ (λ (x y : List ℕ). x ++ y) t (ap₂ (λ (x y : List ℕ). x ++ y) g r)
      ∙ sym (append_assoc front (seal k) (drop (512 * (k + 1)) image))
      ∙ ap (λ (x : List ℕ). x ++ drop (512 * (k + 1)) image) (sym (flat_map_below seal k) ∙ ap (λ (j : ℕ). flat_map seal (below j)) (sym (add-one k)))
