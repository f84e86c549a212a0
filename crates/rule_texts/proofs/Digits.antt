-- Three digits and the number that they write, read and written.
use Prim.Native.Nat.{ℕ, ◌+◌, ◌-◌, ◌*◌, ◌/◌, ◌%◌, ◌≤◌}
use mathlib.Core.Bool.{Bool, true, false, ◌&&◌, cond}
use mathlib.Core.Path.{◌≡◌, refl, sym, ap}
use mathlib.Core.List.{List, [], ◌∷◌, ◌++◌}
use lib.Dec.{T, leb→le, le→leb}
use native.Mathlib.Omega.{arith}
use Rattle.model.proofs.Booleans.{out3}
use Rattle.contexts.specs.Context.{pair}
use Rattle.contexts.specs.Meaning.{pair_number}
use Rattle.contexts.specs.Reader.{is_digit, failed, got, read_pair}
use Rattle.contexts.proofs.Soundness.{digit_out}
use Rattle.contexts.proofs.Completeness.{digit_yes}
use Rattle.rule_texts.specs.Line.{three_digits}

digits_out : (a b d : ℕ) → a ≤ 9 → b ≤ 9 → d ≤ 9 → three_digits (pair_number a b d) ≡ (48 + a) ∷ (48 + b) ∷ (48 + d) ∷ []
digits_out a b d h k l =
    let e : (100 * a + 10 * b + d) / 100 ≡ a = omega arith in
    let f : (100 * a + 10 * b + d) / 10 % 10 ≡ b = omega arith in
    let g : (100 * a + 10 * b + d) % 10 ≡ d = omega arith in
    rw (e, f, g) refl

-- a pair read off a text
pub record OwnPair (t : List ℕ) (a b d : ℕ) (u : List ℕ) : Type 0 where
  pub stood : t ≡ three_digits (pair_number a b d) ++ u
  pub small : pair_number a b d ≤ 999

pub pair_out : (t : List ℕ) (a b d : ℕ) (u : List ℕ) → read_pair t ≡ got (pair a b d) u → OwnPair t a b d u
pair_out [] a b d u e = let z : ◌≡◌ {A = ℕ} 0 1 = cc in absurd (omega arith)
pair_out (x ∷ []) a b d u e = let z : ◌≡◌ {A = ℕ} 0 1 = cc in absurd (omega arith)
pair_out (x ∷ y ∷ []) a b d u e = let z : ◌≡◌ {A = ℕ} 0 1 = cc in absurd (omega arith)
pair_out (x ∷ y ∷ z ∷ t) a b d u e = go (is_digit x && is_digit y && is_digit z) (λ h. out3 (is_digit x) (is_digit y) (is_digit z) h) e
  where
    go : (s : Bool) → (T s → T (is_digit x) × T (is_digit y) × T (is_digit z)) → cond s (got (pair (x - 48) (y - 48) (z - 48)) t) failed ≡ got (pair a b d) u → OwnPair (x ∷ y ∷ z ∷ t) a b d u
    go true k e =
        let i = digit_out x (k tt).0 in
        let j = digit_out y (k tt).1 in
        let l = digit_out z (k tt).2 in
        let small-x = leb→le (x - 48) 9 i.0 in
        let small-y = leb→le (y - 48) 9 j.0 in
        let small-z = leb→le (z - 48) 9 l.0 in
        let p : x - 48 ≡ a = cc in
        let q : y - 48 ≡ b = cc in
        let r : z - 48 ≡ d = cc in
        let s : t ≡ u = cc in
        let m = digits_out a b d (omega arith) (omega arith) (omega arith) in
        let xs : x ≡ 48 + a = omega arith in
        let ys : y ≡ 48 + b = omega arith in
        let zs : z ≡ 48 + d = omega arith in
        record { stood = rw (xs, ys, zs, s) (ap (λ (l : List ℕ). l ++ u) (sym m)); small = omega arith }
    go false k e = let z : ◌≡◌ {A = ℕ} 0 1 = cc in absurd (omega arith)

-- and one written, read
pub own_in : (n : ℕ) (t : List ℕ) → n ≤ 999 → read_pair (three_digits n ++ t) ≡ got (pair (n / 100) (n / 10 % 10) (n % 10)) t
own_in n t h =
    let a : 48 + n / 100 - 48 ≡ n / 100 = omega arith in
    let b : 48 + n / 10 % 10 - 48 ≡ n / 10 % 10 = omega arith in
    let d : 48 + n % 10 - 48 ≡ n % 10 = omega arith in
    rw (digit_yes (n / 100) (le→leb (n / 100) 9 (omega arith)), digit_yes (n / 10 % 10) (le→leb (n / 10 % 10) 9 (omega arith)), digit_yes (n % 10) (le→leb (n % 10) 9 (omega arith)), a, b, d) refl
