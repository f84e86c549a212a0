-- Sets filled place by place, and places looked for one by one.
use Prim.Native.Nat.{ℕ, suc, ◌+◌, ◌≤◌, ◌<◌}
use native.Mathlib.Omega.{arith}
use native.Mathlib.Decide.{ℕ_discrete, dec_lt}
use mathlib.Core.Bool.{Bool, true, ◌&&◌, ◌||◌, and-false, or-false}
use mathlib.Core.Path.{◌≡◌, refl, sym, ap, ◌∙◌}
use lib.Dec.{eqb, ltb}
use borrow.Author.Tests.{lt-ltb, le-ltb, eq-eqb, ne_eqb}
use Rattle.contexts.specs.Meaning.{Places}
use Rattle.contexts.specs.Operators.{some}
use Rattle.model.proofs.Booleans.{true_of, of_true}
use Rattle.contexts.proofs.Obeying.{some_in}
use Rattle.relations.specs.Sets.{holds}
use Rattle.relations.proofs.Bits.{holds_none, and_on}

-- the set of the places below i that pass
abbrev pub Counted : (ℕ → Bool) → ℕ → ℕ → Type 0
Counted f i out = (k : ℕ) → holds out k ≡ (ltb k i && f k)

pub count_begun : (f : ℕ → Bool) → Counted f 0 0
count_begun f k = holds_none k ∙ rw (le-ltb k 0 (omega arith)) refl

pub count_more : (f : ℕ → Bool) (i out x : ℕ) → Counted f i out → ((k : ℕ) → holds x k ≡ (holds out k || (f i && eqb k i))) → Counted f (i + 1) x
count_more f i out x c h k = h k ∙ ap (λ (b : Bool). b || (f i && eqb k i)) (c k) ∙ go (ℕ_discrete k i) (dec_lt k i)
  where
    go : Dec (k ≡ i) → Dec (k < i) → (ltb k i && f k || (f i && eqb k i)) ≡ (ltb k (i + 1) && f k)
    go (yes e) d = rw (e, le-ltb i i (omega arith), lt-ltb i (i + 1) (omega arith), eq-eqb i i refl) (and_on (f i))
    go (no e) (yes l) = rw (lt-ltb k i l, lt-ltb k (i + 1) (omega arith), ne_eqb k i e, and-false (f i)) (or-false (f k))
    go (no e) (no l) = rw (le-ltb k i (omega arith), le-ltb k (i + 1) (omega arith), ne_eqb k i e) (and-false (f i))

pub found : (p : Places) (n k : ℕ) → k ≤ n → p k ≡ true → true ≡ some p (suc n)
found p n k h e = sym (true_of (some p (suc n)) (some_in p (suc n) k (omega arith) (of_true (p k) e)))
