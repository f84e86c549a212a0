-- A line as it comes in, a byte more of it.
use Prim.Native.Nat.{ℕ, ◌+◌, ◌<◌, ◌≤◌}
use native.Mathlib.Numerals.{add-one}
use native.Mathlib.Omega.{arith}
use mathlib.Core.Path.{◌≡◌, refl, sym, ap, ◌∙◌}
use mathlib.Core.List.{List, [], ◌∷◌, ◌++◌}
use lib.ListN.{length, set, take, length-append}
use lib.Seq.{take_all, take-suc-set, take-append-le}
use borrow.Author.Tests.{lt-ltb, le-ltb}
use Rattle.parse.specs.Fields.{Begun, line_after}

pub line_room : (buffer : List ℕ) (n b : ℕ) → n < 256 → set buffer n b ≡ line_after buffer n b
unfolding line_after
line_room buffer n b h = rw (lt-ltb n 256 h) refl

pub line_full : (buffer : List ℕ) (n b : ℕ) → 256 ≤ n → buffer ≡ line_after buffer n b
unfolding line_after
line_full buffer n b h = rw (le-ltb n 256 h) refl

module _ (buffer : List ℕ) (n b : ℕ) (l : List ℕ) (begun : Begun buffer n l) where
  longer : length (l ++ (b ∷ [])) ≡ length l + 1
  longer = length-append l (b ∷ [])

  pub begun_more : n < 256 → n < length buffer → Begun (set buffer n b) (n + 1) (l ++ (b ∷ []))
  begun_more h k =
      let w : length l ≡ n = omega (arith, begun.many) in
      record {
        many = omega (arith, longer, w);
        bytes = ap (λ (m : ℕ). take m (set buffer n b)) (add-one n)
            ∙ take-suc-set buffer n b k
            ∙ ap (λ (x : List ℕ). x ++ (b ∷ [])) (begun.bytes ∙ take_all 256 l (omega (arith, w)))
            ∙ sym (take_all 256 (l ++ (b ∷ [])) (omega (arith, longer, w)));
      }

  pub begun_full : 256 ≤ n → Begun buffer n (l ++ (b ∷ []))
  begun_full h =
      let w : 256 ≤ length l = omega (arith, begun.many) in
      record {
        many = omega (arith, longer, w, begun.many);
        bytes = begun.bytes ∙ sym (take-append-le 256 l (b ∷ []) w);
      }
