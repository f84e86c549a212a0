-- The pair numbers of a context, or of a line's two, are those that stand in its text.
use Prim.Native.Nat.{ℕ, ◌+◌, ◌-◌}
use mathlib.Core.Bool.{false, ◌&&◌}
use mathlib.Core.Path.{◌≡◌, refl, sym, ap, ◌∙◌}
use mathlib.Core.List.{List, [], ◌∷◌, ◌++◌, append_assoc, append-nil}
use lib.Dec.{T, leb}
use native.Mathlib.Omega.{arith}
use Rattle.model.proofs.Booleans.{and_out}
use Rattle.contexts.specs.Context.{Context, pair, any, star, sequence, either, bracket, Level, tight, side, whole, canonical, written}
use Rattle.contexts.specs.Reader.{is_digit, Written, everywhere, where_it_runs, wrong, read_context, is_right}
use Rattle.contexts.proofs.Reading.{read_iff, empty_iff}
use Rattle.rule_texts.specs.Text.{pairs_in, pairs_of}
use Rattle.rule_texts.specs.Scan.{numbers_in}
use Rattle.contexts.proofs.Completeness.{digit_yes}

-- a byte that is no digit is passed over
pub passed : (x : ℕ) (t : List ℕ) → is_digit x ≡ false → numbers_in (x ∷ t) ≡ numbers_in t
passed x [] e = refl
passed x (y ∷ []) e = refl
passed x (y ∷ z ∷ t) e = rw e refl

-- two texts side by side
module _ (us vs : List ℕ) (u v : List ℕ) (first : (r : List ℕ) → numbers_in (u ++ r) ≡ us ++ numbers_in r) (then : (r : List ℕ) → numbers_in (v ++ r) ≡ vs ++ numbers_in r) where
  joined : (r : List ℕ) → numbers_in ((u ++ v) ++ r) ≡ (us ++ vs) ++ numbers_in r
  joined r = ap numbers_in (append_assoc u v r) ∙ first (v ++ r) ∙ ap (λ (l : List ℕ). us ++ l) (then r) ∙ sym (append_assoc us vs (numbers_in r))

-- the numbers of a context's text, whatever stands after it
numbers : (l : Level) (c : Context) → T (canonical l c) → (r : List ℕ) → numbers_in (written c ++ r) ≡ pairs_in c ++ numbers_in r
numbers l (pair a b d) t r =
    let u = and_out (leb a 9 && leb b 9) (leb d 9) t in
    let e : 48 + a - 48 ≡ a = omega arith in
    let f : 48 + b - 48 ≡ b = omega arith in
    let g : 48 + d - 48 ≡ d = omega arith in
    rw (digit_yes a (and_out (leb a 9) (leb b 9) u.0).0, e, f, g) refl
numbers l any t r = passed 46 r refl
numbers l (star c) t r =
    ap numbers_in (append_assoc (written c) (42 ∷ []) r) ∙ numbers tight c t (42 ∷ r) ∙ ap (λ (l : List ℕ). pairs_in c ++ l) (passed 42 r refl)
numbers l (bracket c) t r =
    passed 40 ((written c ++ (41 ∷ [])) ++ r) refl ∙ ap numbers_in (append_assoc (written c) (41 ∷ []) r) ∙ numbers whole c t (41 ∷ r) ∙ ap (λ (l : List ℕ). pairs_in c ++ l) (passed 41 r refl)
numbers tight (sequence c d) t r = absurd t
numbers side (sequence c d) t r =
    let u = and_out (canonical tight c) (canonical side d) t in
    joined (pairs_in c) (pairs_in d) (written c) (written d) (numbers tight c u.0) (numbers side d u.1) r
numbers whole (sequence c d) t r =
    let u = and_out (canonical tight c) (canonical side d) t in
    joined (pairs_in c) (pairs_in d) (written c) (written d) (numbers tight c u.0) (numbers side d u.1) r
numbers tight (either c d) t r = absurd t
numbers side (either c d) t r = absurd t
numbers whole (either c d) t r =
    let u = and_out (canonical side c) (canonical whole d) t in
    joined (pairs_in c) (pairs_in d) (written c) (124 ∷ written d) (numbers side c u.0) (λ q. passed 124 (written d ++ q) refl ∙ numbers whole d u.1 q) r

-- so of a text that is read as a context, whatever stands after it
scanned_then : (t : List ℕ) → T (is_right (read_context t)) → (r : List ℕ) → numbers_in (t ++ r) ≡ pairs_of (read_context t) ++ numbers_in r
scanned_then t h r = go (read_context t) refl h
  where
    go : (w : Written) → read_context t ≡ w → T (is_right w) → numbers_in (t ++ r) ≡ pairs_of w ++ numbers_in r
    go everywhere e k = ap (λ (l : List ℕ). numbers_in (l ++ r)) ((empty_iff t).0 e)
    go (where_it_runs c) e k =
        let i = (read_iff t c).0 e in
        ap (λ (l : List ℕ). numbers_in (l ++ r)) (sym i.stood) ∙ numbers whole c i.shaped r
    go wrong e k = absurd k

pub scanned : (t : List ℕ) → T (is_right (read_context t)) → numbers_in t ≡ pairs_of (read_context t)
scanned t h = ap numbers_in (sym (append-nil t)) ∙ scanned_then t h [] ∙ append-nil (pairs_of (read_context t))

-- a line after its own pair: two contexts, an underscore between them
pub scanned_line : (u v : List ℕ) → T (is_right (read_context u)) → T (is_right (read_context v)) → numbers_in (u ++ (95 ∷ v)) ≡ pairs_of (read_context u) ++ pairs_of (read_context v)
scanned_line u v h k = scanned_then u h (95 ∷ v) ∙ ap (λ (l : List ℕ). pairs_of (read_context u) ++ l) (passed 95 v refl ∙ scanned v k)
