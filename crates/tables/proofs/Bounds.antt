-- A table by its counts and its four ranges of bytes: the first that is out of bounds decides.
use Prim.Native.Nat.{ℕ, ◌+◌, ◌*◌, ◌-◌, ◌≤◌}
use native.Mathlib.Nat.{mul-le-mul}
use native.Mathlib.Omega.{arith}
use mathlib.Core.Bool.{Bool, true, false, ◌&&◌}
use mathlib.Core.Path.{◌≡◌, refl, sym, ap, ap₂, ◌∙◌}
use mathlib.Core.List.{List}
use lib.ListN.{length, take, drop}
use lib.Seq.{take_all}
use lib.Dec.{leb}
use Rattle.model.specs.Lists.{every, within, is_zero}
use Rattle.model.proofs.Booleans.{and_out, of_true, within_out}
use Rattle.model.specs.RuleTables.{column_count, state_count, marks_at, rows_at, table_end, is_side, is_table}
use Rattle.tables.specs.Bounds.{right_counts}

module _ (t : List ℕ) (letters sets : ℕ) where
  abbrev pub counts : Bool
  counts = right_counts (column_count t) (state_count t)

  abbrev pub sides : Bool
  sides = every (is_side letters sets) (take (2 * column_count t) (drop 2 t))

  abbrev pub marks : Bool
  marks = every (λ b. leb b 1) (take (state_count t) (drop (marks_at t) t))

  abbrev pub nexts : Bool
  nexts = every (λ b. leb b (state_count t)) (take (column_count t * state_count t) (drop (rows_at t) t))

  abbrev pub rest : Bool
  rest = every is_zero (drop (table_end t) t)

  pub table_is : is_table t letters sets ≡ (counts && sides && marks && nexts && rest)
  unfolding is_table
  table_is = refl

  -- by the counts that were read
  module _ (c s : ℕ) where
    abbrev pub sides_read : Bool
    sides_read = every (is_side letters sets) (take (2 + 2 * c - 2) (drop 2 t))

    abbrev pub marks_read : Bool
    marks_read = every (λ b. leb b 1) (take (2 + 2 * c + s - (2 + 2 * c)) (drop (2 + 2 * c) t))

    abbrev pub nexts_read : Bool
    nexts_read = every (λ b. leb b s) (take (2 + 2 * c + s + c * s - (2 + 2 * c + s)) (drop (2 + 2 * c + s) t))

    abbrev pub rest_read : Bool
    rest_read = every is_zero (drop (2 + 2 * c + s + c * s) (take 506 t))

    module _ (C : c ≡ column_count t) (S : s ≡ state_count t) where
      counts_are : right_counts c s ≡ counts
      counts_are = rw (C, S)

      sides_are : sides_read ≡ sides
      sides_are = let e : 2 + 2 * c - 2 ≡ 2 * c = omega arith in rw (e, C)

      marks_are : marks_read ≡ marks
      marks_are = let e : 2 + 2 * c + s - (2 + 2 * c) ≡ s = omega arith in rw (e, C, S)

      nexts_are : nexts_read ≡ nexts
      nexts_are = let e : 2 + 2 * c + s + c * s - (2 + 2 * c + s) ≡ c * s = omega arith in rw (e, C, S)

      rest_is : length t ≡ 506 → rest_read ≡ rest
      rest_is long = rw (C, S) (ap (λ (l : List ℕ). every is_zero (drop (table_end t) l)) (take_all 506 t (omega arith)))

      -- counts that fail decide, and after those that pass the four parts
      pub counts_fail : right_counts c s ≡ false → is_table t letters sets ≡ false
      counts_fail e = table_is ∙ ap (λ (x : Bool). x && sides && marks && nexts && rest) (sym counts_are ∙ e)

      pub parts_are : length t ≡ 506 → right_counts c s ≡ true → (sides_read && marks_read && nexts_read && rest_read) ≡ is_table t letters sets
      parts_are long e =
          ap₂ (λ (x y : Bool). x && y) (ap₂ (λ (x y : Bool). x && y) (ap₂ (λ (x y : Bool). x && y) sides_are marks_are) nexts_are) (rest_is long)
          ∙ sym (table_is ∙ ap (λ (x : Bool). x && sides && marks && nexts && rest) (sym counts_are ∙ e))

-- counts in range keep the table before the check
pub counts_bound : (c s : ℕ) → right_counts c s ≡ true → (1 ≤ c) × (c ≤ 16) × (1 ≤ s) × (s ≤ 24) × (c * s ≤ 384)
counts_bound c s e =
    let u = and_out (within 1 16 c) (within 1 24 s) (of_true (right_counts c s) e) in
    let v = within_out 1 16 c u.0 in
    let w = within_out 1 24 s u.1 in
    (v.0, v.1, w.0, w.1, mul-le-mul {n₁ = c} {m₁ = s} {n₂ = 16} {m₂ = 24} v.1 w.1)
