-- A lexicon put at the end of the order.
use Prim.Native.Nat.{ℕ, suc, ◌+◌, ◌<◌}
use native.Mathlib.Omega.{arith}
use native.Mathlib.Decide.{ℕ_discrete}
use mathlib.Core.Path.{◌≡◌, ap, ◌∙◌}
use mathlib.Core.List.{List}
use lib.ListN.{length, get_or, set, length-set}
use lib.Seq.{get_or-set_same, get_or-set_other}
use Rattle.model.specs.Lists.{byte}
use Rattle.orders.specs.Orders.{Ordered}

pub ordered_none : (row : List ℕ) (lexicons : ℕ) → length row ≡ 128 → Ordered (set row 0 0) lexicons
ordered_none row lexicons e =
    let none : byte (set row 0 0) 0 ≡ 0 = get_or-set_same row 0 0 0 (omega arith) in
    record { long = length-set row 0 0 ∙ e; few = omega arith; each = λ k h. absurd (omega arith) }

pub ordered_more : (row : List ℕ) (lexicons n x m : ℕ) → Ordered row lexicons → n ≡ byte row 0 → n < 64 → x < lexicons → m ≡ n + 1 → Ordered (set (set row (n + 1) x) 0 m) lexicons
ordered_more row lexicons n x m o e room small f = record {
  long = length-set (set row (n + 1) x) 0 m ∙ length-set row (n + 1) x ∙ o.long;
  few = omega (arith, count);
  each = λ k h. go k (omega (arith, count)) (ℕ_discrete k n);
}
  where
    count : byte (set (set row (n + 1) x) 0 m) 0 ≡ m
    count = get_or-set_same (set row (n + 1) x) 0 m 0 (omega (arith, length-set row (n + 1) x, o.long))

    go : (k : ℕ) → k < n + 1 → Dec (k ≡ n) → byte (set (set row (n + 1) x) 0 m) (suc k) < lexicons
    go k h (yes z) =
        let at : suc k ≡ n + 1 = omega arith in
        omega (arith, get_or-set_other (set row (n + 1) x) 0 (suc k) m 0 (λ y. omega arith), ap (λ (j : ℕ). get_or (set row (n + 1) x) j 0) at, get_or-set_same row (n + 1) x 0 (omega (arith, o.long)))
    go k h (no z) =
        omega (arith, get_or-set_other (set row (n + 1) x) 0 (suc k) m 0 (λ y. omega arith), get_or-set_other row (n + 1) (suc k) x 0 (λ y. z (omega arith)), o.each k (omega arith))
