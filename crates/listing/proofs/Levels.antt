-- A level after one more pair, by whether the pair's side is the null.
use Prim.Native.Nat.{ℕ, zero, suc, ◌+◌, ◌<◌, ◌≤◌}
use native.Mathlib.Numerals.{add-one}
use native.Mathlib.Omega.{arith}
use mathlib.Core.Bool.{true, false}
use mathlib.Core.Path.{◌≡◌, refl}
use borrow.Author.Tests.{le-leb}
use Rattle.std.proofs.lemmas.Bool.{lt-leb}
use Rattle.model.specs.Query.{Pattern}
use Rattle.listing.specs.declared.level.Level.{Level}
use Rattle.listing.specs.Levels.{level_of, level_may_by, level_go_by, Bounded, Passed}

module _ (t : Pattern) (c : Level) (b : Bounded c) where
  pub null_full : (x : ℕ) → x ≡ 0 → 8 ≤ c.nulls → level_may_by t (level_of c) x ≡ false
  unfolding level_may_by
  null_full x e full = rw (e, le-leb c.letters 32 b.letters_in, lt-leb (suc c.nulls) 8 (omega arith)) refl

  pub null_passed : (x : ℕ) → x ≡ 0 → c.nulls < 8 → Passed t c x (record { letters = c.letters; nulls = c.nulls + 1 })
  unfolding level_may_by level_go_by
  null_passed x e spare = record {
    may = rw (e, le-leb c.letters 32 b.letters_in, le-leb (suc c.nulls) 8 (omega arith)) refl;
    go = rw (e, add-one c.nulls) refl;
    bounded = record { letters_in = b.letters_in; nulls_in = omega arith };
  }

  pub letter_not : (x : ℕ) → (x ≡ 0 → ⊥) → t.allows c.letters x ≡ false → level_may_by t (level_of c) x ≡ false
  unfolding level_may_by
  letter_not zero f e = absurd (f refl)
  letter_not (suc a) f e = rw e refl

  pub letter_full : (x : ℕ) → (x ≡ 0 → ⊥) → t.allows c.letters x ≡ true → 32 ≤ c.letters → level_may_by t (level_of c) x ≡ false
  unfolding level_may_by
  letter_full zero f e full = absurd (f refl)
  letter_full (suc a) f e full = rw (e, lt-leb (suc c.letters) 32 (omega arith)) refl

  pub letter_passed : (x : ℕ) → (x ≡ 0 → ⊥) → t.allows c.letters x ≡ true → c.letters < 32 → Passed t c x (record { letters = c.letters + 1; nulls = c.nulls })
  unfolding level_may_by level_go_by
  letter_passed zero f e spare = absurd (f refl)
  letter_passed (suc a) f e spare = record {
    may = rw (e, le-leb (suc c.letters) 32 (omega arith), le-leb c.nulls 8 b.nulls_in) refl;
    go = rw (add-one c.letters) refl;
    bounded = record { letters_in = omega arith; nulls_in = b.nulls_in };
  }
