-- Laws of blocks: the weighted sum, a byte more, and a block's bytes as bytes of the image.
use Prim.Native.Nat.{ℕ, zero, suc, ◌+◌, ◌*◌, ◌<◌}
use native.Mathlib.Nat.{add_assoc, add-suc, suc-add, add-zero, zero-add}
use native.Mathlib.Numerals.{add-one}
use mathlib.Core.Path.{◌≡◌, sym, ap, ap₂, ◌∙◌}
use mathlib.Core.List.{List, [], ◌∷◌}
use lib.ListN.{length, take, drop}
use lib.Seq.{get_or-take, get_or-drop}
use native.Mathlib.Omega.{arith}
use Rattle.model.specs.Lists.{byte, number}
use Rattle.model.specs.Blocks.{Header, header, block, weighted_sum}

sum_more : (k i : ℕ) (l : List ℕ) → i < length l → weighted_sum k (take (suc i) l) ≡ weighted_sum k (take i l) + suc (k + i) * byte l i
unfolding weighted_sum
sum_more k i [] h = absurd (omega arith)
sum_more k zero (b ∷ l) h = ap (λ (n : ℕ). suc n * b + 0) (sym (add-zero k)) ∙ omega arith
sum_more k (suc i) (b ∷ l) h =
    let r = sum_more (suc k) i l (omega arith) in
    let e : suc (suc k + i) * byte l i ≡ suc (k + suc i) * byte l i = ap (λ (n : ℕ). suc n * byte l i) (suc-add k i ∙ sym (add-suc k i)) in
    omega arith

-- a byte more
pub weighted_sum_more : (i : ℕ) (l : List ℕ) → i < length l → weighted_sum 0 (take (i + 1) l) ≡ weighted_sum 0 (take i l) + (i + 1) * byte l i
weighted_sum_more i l h = ap (λ (n : ℕ). weighted_sum 0 (take n l)) (add-one i) ∙ sum_more 0 i l h ∙ ap (λ (n : ℕ). weighted_sum 0 (take i l) + n * byte l i) (ap suc (zero-add i) ∙ sym (add-one i))

-- a block's byte is the image's
pub block_byte : (image : List ℕ) (k i : ℕ) → i < 512 → byte (block image k) i ≡ byte image (512 * k + i)
unfolding block
block_byte image k i h = get_or-take 512 (drop (512 * k) image) i 0 h ∙ get_or-drop (512 * k) image i 0

pub block_number_lem : (image : List ℕ) (k i : ℕ) → i + 1 < 512 → number (block image k) i ≡ number image (512 * k + i)
block_number_lem image k i h =
    let j : i < 512 = omega arith in
    ap₂ (λ (x y : ℕ). x + 256 * y) (block_byte image k i j) (block_byte image k (i + 1) h ∙ ap (byte image) (sym (add_assoc (512 * k) i 1)))

-- the header's counts are numbers of the image
module _ (image : List ℕ) where
  pub header_read : {form letters pairs rules lexicons entries sets : ℕ}
      → form ≡ number image 4 → letters ≡ number image 6 → pairs ≡ number image 8 → rules ≡ number image 10 → lexicons ≡ number image 12 → entries ≡ number image 14 → sets ≡ number image 16
      → ◌≡◌ {A = Header} (record { form = form; letters = letters; pairs = pairs; rules = rules; lexicons = lexicons; entries = entries; sets = sets }) (header image)
  unfolding header
  header_read a b c d e f g i =
      record {
        form = at 4 (omega arith) a i;
        letters = at 6 (omega arith) b i;
        pairs = at 8 (omega arith) c i;
        rules = at 10 (omega arith) d i;
        lexicons = at 12 (omega arith) e i;
        entries = at 14 (omega arith) f i;
        sets = at 16 (omega arith) g i;
      }
    where
      at : (k : ℕ) → k + 1 < 512 → {n : ℕ} → n ≡ number image k → n ≡ number (block image 0) k
      at k h e = e ∙ sym (block_number_lem image 0 k h ∙ ap (number image) (zero-add k))
