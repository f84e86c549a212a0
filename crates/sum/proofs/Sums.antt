-- A block's sums: they fit in 16 bits, and the columns' sums make the weighted sum of its first 504 bytes.
use Prim.Native.Nat.{ℕ, zero, suc, ◌+◌, ◌*◌, ◌<◌, ◌≤◌}
use native.Mathlib.Nat.{mul_assoc}
use native.Mathlib.Decide.{ℕ_discrete}
use native.Mathlib.Omega.{arith}
use native.Mathlib.Numerals.{add-one}
use mathlib.Core.Path.{◌≡◌, refl, sym, ap, ap₂, ◌∙◌}
use mathlib.Core.List.{List}
use lib.ListN.{length, get_or, take, set, replicate, length-set}
use lib.Seq.{get_or-set_same, get_or-set_other}
use Rattle.model.specs.Lists.{byte}
use Rattle.model.specs.Blocks.{weighted_sum}
use Rattle.model.proofs.Blocks.{weighted_sum_more}
use Rattle.sum.specs.Sums.{total, by_number, strip_byte, strip_sum, strip_by_row, sum_in, rows_in, column_sum, column_by_row, column_by_strip, of_columns, Filled}
use Rattle.sum.proofs.Totals.{total_same, total_most, most_by_number, total_add, total_times, by_rows, total_turned, total_from, column_twice}

pub filled_none : {f : ℕ → ℕ} → Filled f 0 (replicate 8 0)
filled_none = record { size = refl; filled = λ i h. absurd (omega arith) }

module _ {f : ℕ → ℕ} {n : ℕ} {l : List ℕ} (s : Filled f n l) (h : n < 8) (x : ℕ) (e : x ≡ f n) where
  pub filled_one : Filled f (n + 1) (set l n x)
  filled_one = record { size = length-set l n x ∙ s.size; filled = λ i. one (ℕ_discrete i n) }
    where
      one : {i : ℕ} → Dec (i ≡ n) → i < n + 1 → get_or (set l n x) i 0 ≡ f i
      one (yes d) k = rw d (get_or-set_same l n x 0 (omega (arith, s.size)) ∙ e)
      one {i} (no d) k = get_or-set_other l n i x 0 d ∙ s.filled i (omega arith)

module _ (block : List ℕ) where
  -- the sum over places
  sum_total : (n : ℕ) → n ≤ length block → weighted_sum 0 (take n block) ≡ total n (λ i. suc i * byte block i)
  unfolding total weighted_sum
  sum_total zero h = refl
  sum_total (suc n) h =
      ap (λ (k : ℕ). weighted_sum 0 (take k block)) (sym (add-one n))
      ∙ weighted_sum_more n block h
      ∙ ap₂ (λ (x y : ℕ). x + y * byte block n) (sum_total n (omega arith)) (add-one n)

  -- sums of bytes fit in 16 bits
  module _ (bytes : (i : ℕ) → byte block i < 256) where
    pub strip_most : (from : ℕ) → (strip_sum block from ≤ 2295) × (strip_by_row block from ≤ 9180)
    unfolding total
    strip_most from =
        let most : (q : ℕ) → strip_byte block from q ≤ 255 = λ q. omega (arith, bytes (8 * q + from)) in
        (total_most 9 (strip_byte block from) (λ q. 255) most, most_by_number 9 (strip_byte block from) 255 most)

    pub column_most : (c : ℕ) → (column_sum block c ≤ 16065) × ((column_by_row block c ≤ 64260) × (column_by_strip block c ≤ 48195))
    unfolding total
    column_most c =
        let sums : (p : ℕ) → sum_in block c p ≤ 2295 = λ p. (strip_most (72 * p + c)).0 in
        (total_most 7 (sum_in block c) (λ p. 2295) sums, (total_most 7 (rows_in block c) (λ p. 9180) (λ p. (strip_most (72 * p + c)).1), most_by_number 7 (sum_in block c) 2295 sums))

  -- the arrays in place of the columns
  pub columns_same : {sums rows strips : List ℕ} → Filled (column_sum block) 8 sums → Filled (column_by_row block) 8 rows → Filled (column_by_strip block) 8 strips
      → of_columns (λ c. get_or sums c 0) (λ c. get_or rows c 0) (λ c. get_or strips c 0) ≡ of_columns (column_sum block) (column_by_row block) (column_by_strip block)
  columns_same {sums} {rows} {strips} s r t =
      let a = total_same 8 (by_number (λ c. get_or sums c 0)) (by_number (column_sum block)) (λ i h. ap (λ (n : ℕ). i * n) (s.filled i h)) in
      let b = total_same 8 (λ c. get_or sums c 0) (column_sum block) s.filled in
      let c = total_same 8 (λ c. get_or rows c 0) (column_by_row block) r.filled in
      let d = total_same 8 (λ c. get_or strips c 0) (column_by_strip block) t.filled in
      omega (arith, a, b, c, d)

  module _ (c : ℕ) where
    -- the byte of column c in row r
    abbrev column_byte : ℕ → ℕ
    column_byte r = byte block (8 * r + c)

    -- and by strips, nine rows each
    abbrev in_strip : ℕ → ℕ → ℕ
    in_strip p = strip_byte block (72 * p + c)

    in_strip_lem : (p q : ℕ) → column_byte (9 * p + q) ≡ in_strip p q
    in_strip_lem p q = ap (byte block) (omega arith)

    column_rows : total 63 column_byte ≡ column_sum block c
    column_rows =
        by_rows 9 7 column_byte
        ∙ total_same 7 (λ p. total 9 (λ q. column_byte (9 * p + q))) (sum_in block c) (λ p _. total_same 9 (λ q. column_byte (9 * p + q)) (in_strip p) (λ q _. in_strip_lem p q))

    strip_by_number : (p : ℕ) → total 9 (λ q. (9 * p + q) * column_byte (9 * p + q)) ≡ 9 * by_number (sum_in block c) p + rows_in block c p
    strip_by_number p =
        total_same 9 (λ q. (9 * p + q) * column_byte (9 * p + q)) (λ q. (9 * p + q) * in_strip p q) (λ q _. ap (λ (b : ℕ). (9 * p + q) * b) (in_strip_lem p q))
        ∙ total_from 9 (9 * p) (in_strip p)
        ∙ ap (λ (n : ℕ). n + rows_in block c p) (mul_assoc 9 p (sum_in block c p))

    column_by_number : total 63 (by_number column_byte) ≡ 9 * column_by_strip block c + column_by_row block c
    column_by_number =
        by_rows 9 7 (by_number column_byte)
        ∙ total_same 7 (λ p. total 9 (λ q. (9 * p + q) * column_byte (9 * p + q))) (λ p. 9 * by_number (sum_in block c) p + rows_in block c p) (λ p _. strip_by_number p)
        ∙ total_add 7 (λ p. 9 * by_number (sum_in block c) p) (rows_in block c)
        ∙ ap (λ (n : ℕ). n + column_by_row block c) (total_times 7 9 (by_number (sum_in block c)))

    column_whole : total 63 (λ r. suc (8 * r + c) * column_byte r) ≡ 8 * column_by_row block c + 72 * column_by_strip block c + (by_number (column_sum block) c + column_sum block c)
    column_whole =
        let times : c * total 63 column_byte ≡ by_number (column_sum block) c = ap (λ (n : ℕ). c * n) column_rows in
        omega (arith, column_twice 8 c 63 column_byte, column_rows, times, column_by_number)

  pub columns_sum : 504 ≤ length block → of_columns (column_sum block) (column_by_row block) (column_by_strip block) ≡ weighted_sum 0 (take 504 block)
  columns_sum h =
      let place : ℕ → ℕ = λ i. suc i * byte block i in
      let sums = column_sum block in
      let rows = column_by_row block in
      let strips = column_by_strip block in
      sym
      (sum_total 504 h
      ∙ by_rows 8 63 place
      ∙ total_turned 8 63 (λ r c. place (8 * r + c))
      ∙ total_same 8 (λ c. total 63 (λ r. place (8 * r + c))) (λ c. 8 * rows c + 72 * strips c + (by_number sums c + sums c)) (λ c _. column_whole c)
      ∙ omega (
        arith,
        total_add 8 (λ c. 8 * rows c + 72 * strips c) (λ c. by_number sums c + sums c),
        total_add 8 (λ c. 8 * rows c) (λ c. 72 * strips c),
        total_times 8 8 rows,
        total_times 8 72 strips,
        total_add 8 (by_number sums) sums,
      ))
