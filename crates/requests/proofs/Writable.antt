-- A word that passes tests 9 and 10 has a set for each of its letters and places; so has no word at all.
use Prim.Native.Nat.{ℕ, zero, suc, ◌<◌, ◌≤◌}
use native.Mathlib.Omega.{arith}
use mathlib.Core.Bool.{Bool, true, false}
use mathlib.Core.Path.{◌≡◌, ap, subst}
use mathlib.Core.List.{List, [], ◌∷◌}
use lib.ListN.{length, get_or}
use lib.Dec.{T}
use Rattle.model.specs.Lists.{every, within}
use Rattle.model.specs.Blocks.{Header, header}
use Rattle.model.specs.Refusals.{accepted, unless, first_failing, word_tests, own_tests}
use Rattle.model.specs.Readings.{word_length}
use Rattle.model.proofs.Booleans.{and_out, within_out}
use Rattle.model.proofs.Tests.{clash}
use Rattle.image.specs.Accepted.{Accepted}
use Rattle.filter.specs.Sieve.{Writable}
use Rattle.requests.specs.declared.Request.{Request}
use Rattle.requests.specs.declared.Request.TheVariants.{Analysis}
use Rattle.requests.specs.Request.{request_of}

letters_most : (top : ℕ) (word : List ℕ) → T (every (within 2 top) word) → (i : ℕ) → i < length word → get_or word i 0 ≤ top
letters_most top [] t i h = absurd (omega arith)
letters_most top (x ∷ word) t zero h = (within_out 2 top x (and_out (within 2 top x) (every (within 2 top) word) t).0).1
letters_most top (x ∷ word) t (suc i) h = letters_most top word (and_out (within 2 top x) (every (within 2 top) word) t).1 i (omega arith)

-- two tests that are passed
passed : (a b : Bool) (k l : ℕ) → unless a k (unless b l accepted) ≡ accepted → T a × T b
passed true true k l e = (tt, tt)
passed true false k l e = clash (cc)
passed false b k l e = clash (cc)

module _ {image : List ℕ} {h : Header} (a : Accepted image h) where
  word_writable : (word : List ℕ) → first_failing (word_tests image word) ≡ accepted → Writable word
  unfolding word_tests
  word_writable word e =
      let u = passed (word_length word) (every (within 2 (header image).letters) word) 9 10 e in
      let few = a.laid.limits.letters_most in
      let same = ap (λ (g : Header). g.letters) a.laid.header_is in
      ((within_out 1 32 (length word) u.0).1, λ i k. let m = letters_most (header image).letters word u.1 i k in omega (arith, m, few, same))

  pub analysed_writable : (request : Request) (word : List ℕ) → request ≡ Analysis → first_failing (own_tests image (request_of request word)) ≡ accepted → Writable word
  unfolding own_tests
  analysed_writable request word e t = word_writable word (subst (λ (request : Request). first_failing (own_tests image (request_of request word)) ≡ accepted) e t)

pub none_writable : Writable []
none_writable = (omega arith, λ i k. absurd (omega arith))
