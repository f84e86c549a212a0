-- What a number told of three digits says of the text.
use Prim.Native.Nat.{ℕ, ◌+◌, ◌≤◌}
use mathlib.Core.Path.{◌≡◌, refl, sym, ap, ◌∙◌}
use mathlib.Core.List.{List}
use lib.ListN.{length, drop}
use Rattle.std.proofs.Common.{Option, Some, None}
use Rattle.contexts.specs.Context.{pair, any, star, sequence, either, bracket}
use Rattle.contexts.specs.Reader.{Read, failed, got}
use Rattle.contexts.specs.Meaning.{pair_number}
use Rattle.matching.specs.Steps.{Numbered}

pub number_none : (t : List ℕ) (at : ℕ) (n : Option ℕ) (x : Read) → Numbered t at x n → n ≡ None → x ≡ failed
number_none t at n failed h e = refl
number_none t at n (got (pair a b d) u) h e = let k : Some (pair_number a b d) ≡ None = sym h.0 ∙ e in cc
number_none t at n (got any u) h e = absurd h
number_none t at n (got (star c) u) h e = absurd h
number_none t at n (got (sequence c d) u) h e = absurd h
number_none t at n (got (either c d) u) h e = absurd h
number_none t at n (got (bracket c) u) h e = absurd h

-- a pair, of its number
pub record Pair (t : List ℕ) (at n : ℕ) (x : Read) : Type 0 where
  pub a : ℕ
  pub b : ℕ
  pub d : ℕ
  pub same : x ≡ got (pair a b d) (drop (at + 3) t)
  pub number : n ≡ pair_number a b d
  pub inside : at + 3 ≤ length t

pub number_some : (t : List ℕ) (at : ℕ) (o : Option ℕ) (n : ℕ) (x : Read) → Numbered t at x o → o ≡ Some n → Pair t at n x
number_some t at o n failed h e = let k : Some n ≡ None = sym e ∙ h in cc
number_some t at o n (got (pair a b d) u) h e = let k : Some n ≡ Some (pair_number a b d) = sym e ∙ h.0 in record { a = a; b = b; d = d; same = ap (got (pair a b d)) h.2; number = cc; inside = h.3 }
number_some t at o n (got any u) h e = absurd h
number_some t at o n (got (star c) u) h e = absurd h
number_some t at o n (got (sequence c d) u) h e = absurd h
number_some t at o n (got (either c d) u) h e = absurd h
number_some t at o n (got (bracket c) u) h e = absurd h
