-- A text is read as a context that may stand in a line exactly when it is that context's text; and the bytes that such a text lacks.
use Prim.Native.Nat.{ℕ, ◌+◌}
use mathlib.Core.Bool.{Bool, true, false, ◌&&◌, ◌||◌, not}
use mathlib.Core.Path.{◌≡◌, sym, ap, subst}
use mathlib.Core.Logic.{◌↔◌}
use mathlib.Core.List.{List, [], ◌∷◌, ◌++◌}
use lib.ListN.{length}
use lib.Dec.{T, leb, eqb, eqb→eq, leb→le, le→leb}
use native.Mathlib.Omega.{arith}
use Rattle.model.specs.Lists.{every, within}
use Rattle.model.proofs.Booleans.{and_out, and_in, out3, in3, left_or, within_in}
use Rattle.model.proofs.Lists.{every_append, every_map}
use Rattle.contexts.specs.Context.{Context, pair, any, star, sequence, either, bracket, Level, tight, side, whole, canonical, written, depth}
use Rattle.contexts.specs.Reader.{Written, everywhere, where_it_runs, wrong, read_context, is_right}
use Rattle.contexts.proofs.Reading.{read_iff, empty_iff}
use Rattle.contexts.proofs.Obeying.{not_in}
use Rattle.rule_texts.specs.Line.{written_context, may_stand}
use Rattle.rule_texts.proofs.Split.{lacks}

context_out : (t : List ℕ) (w : Written) → read_context t ≡ w → T (is_right w) → (written_context w ≡ t) × T (may_stand w)
context_out t everywhere e h = (sym ((empty_iff t).0 e), tt)
context_out t (where_it_runs c) e h =
    let i = (read_iff t c).0 e in
    (i.stood, in3 (canonical whole c) (leb (depth c) 8) (leb (length (written c)) 64) i.shaped (le→leb (depth c) 8 i.shallow) (le→leb (length (written c)) 64 (omega (arith, i.short, ap length i.stood))))
context_out t wrong e h = absurd h

context_in : (t : List ℕ) (w : Written) → written_context w ≡ t → T (may_stand w) → (read_context t ≡ w) × T (is_right w)
context_in t everywhere e h = ((empty_iff t).1 (sym e), tt)
context_in t (where_it_runs c) e h =
    let u = out3 (canonical whole c) (leb (depth c) 8) (leb (length (written c)) 64) h in
    let k = leb→le (length (written c)) 64 u.2 in
    ((read_iff t c).1 (record { shaped = u.0; stood = e; shallow = leb→le (depth c) 8 u.1; short = omega (arith, ap length e) }), tt)
context_in t wrong e h = absurd h

pub context_iff : (t : List ℕ) (w : Written) → ((read_context t ≡ w) × T (is_right w)) ↔ ((written_context w ≡ t) × T (may_stand w))
context_iff t w = (λ h. context_out t w h.0 h.1, λ h. context_in t w h.0 h.1)

-- from the opening bracket to the last digit, and the bar
abbrev is_byte : ℕ → Bool
is_byte x = within 40 57 x || eqb x 124

digit_byte : (a : ℕ) → T (leb a 9) → T (is_byte (48 + a))
digit_byte a t =
    let h = leb→le a 9 t in
    left_or (within 40 57 (48 + a)) (eqb (48 + a) 124) (within_in 40 57 (48 + a) (omega arith) (omega arith))

both_parts : (u v : List ℕ) → T (every is_byte u) → T (every is_byte v) → T (every is_byte (u ++ v))
both_parts u v h k = rw (every_append is_byte u v) (and_in (every is_byte u) (every is_byte v) h k)

context_bytes : (l : Level) (c : Context) → T (canonical l c) → T (every is_byte (written c))
context_bytes l (pair a b d) t =
    let u = out3 (leb a 9) (leb b 9) (leb d 9) t in
    and_in (is_byte (48 + a)) (is_byte (48 + b) && (is_byte (48 + d) && true)) (digit_byte a u.0) (and_in (is_byte (48 + b)) (is_byte (48 + d) && true) (digit_byte b u.1) (and_in (is_byte (48 + d)) true (digit_byte d u.2) tt))
context_bytes l any t = tt
context_bytes l (star c) t = both_parts (written c) (42 ∷ []) (context_bytes tight c t) tt
context_bytes l (bracket c) t = both_parts (written c) (41 ∷ []) (context_bytes whole c t) tt
context_bytes tight (sequence c d) t = absurd t
context_bytes side (sequence c d) t =
    let u = and_out (canonical tight c) (canonical side d) t in
    both_parts (written c) (written d) (context_bytes tight c u.0) (context_bytes side d u.1)
context_bytes whole (sequence c d) t =
    let u = and_out (canonical tight c) (canonical side d) t in
    both_parts (written c) (written d) (context_bytes tight c u.0) (context_bytes side d u.1)
context_bytes tight (either c d) t = absurd t
context_bytes side (either c d) t = absurd t
context_bytes whole (either c d) t =
    let u = and_out (canonical side c) (canonical whole d) t in
    both_parts (written c) (124 ∷ written d) (context_bytes side c u.0) (context_bytes whole d u.1)

-- so neither an underscore nor a line end
pub context_lacks : (b : ℕ) → is_byte b ≡ false → (w : Written) → T (may_stand w) → T (lacks b (written_context w))
context_lacks b e everywhere h = tt
context_lacks b e (where_it_runs c) h =
    every_map is_byte (λ x. not (eqb x b)) (written c)
    (λ x m t. not_in (eqb x b) (λ k. subst T e (subst (λ (y : ℕ). T (is_byte y)) (eqb→eq x b k) t)))
    (context_bytes whole c (out3 (canonical whole c) (leb (depth c) 8) (leb (length (written c)) 64) h).0)
context_lacks b e wrong h = absurd h
