-- `try_all` meets its contract: at the loop's head the first k candidates are tried.
use native.Mathlib.Omega.{arith}
use mathlib.Core.Path.{◌≡◌, ap, subst}
use Prim.Native.Nat.{ℕ, ◌<◌}
use mathlib.Core.List.{List}
use lib.ListN.{length}
use Rattle.model.specs.Blocks.{Header, header}
use Rattle.model.specs.Query.{Query}
use Rattle.image.specs.Index.{candidates}
use Rattle.listing.specs.Asked.{word_query}
use Rattle.listing.specs.Places.{rest_of, Shut}
use Rattle.listing.specs.declared.place.Place.{Place}
use Rattle.ahead.specs.Forced.{TriedOf}
use Rattle.ahead.specs.declared.forced.Tried.{Tried}
use Rattle.ahead.proofs.Candidates.{Candidate, candidate_spells}
use Rattle.ahead.proofs.Trying.{tried_shut, tried_took}
use Rattle.ahead.proofs.forced.try_all.Goals as goal
use Rattle.ahead.proofs.forced.try_all.Goals.{After-candidate-p, in-Some+in-Nothing, in_default}

-- the candidate of a turn
chosen : (c : After-candidate-p) → Candidate c.args.image.now c.next_letter-letter.result.0 c.loop-k.k c.candidate-p.result
chosen c = record { inside = omega (arith, c.loop-k-test.true, c.candidate_count-many.ensures); this = c.candidate-p.ensures.0 }

-- all candidates, by the letter that comes next
by_head : (image : List ℕ) (q : Query) (place : Place) {letter head k : ℕ} (t : Tried) → letter ≡ head → k ≡ length (candidates image letter)
    → TriedOf image q place (candidates image letter) k t → TriedOf image q place (candidates image head) (length (candidates image head)) t
by_head image q place {letter} t e l tried =
    subst (λ (a : ℕ). TriedOf image q place (candidates image a) (length (candidates image a)) t) e
    (subst (λ (n : ℕ). TriedOf image q place (candidates image letter) n t) l tried)

pub take-taken-requires-clause-t : goal.take-taken-requires-clause-t
take-taken-requires-clause-t c = candidate_spells (rest_of c.args.image.now c.args.place) c.next_letter-letter.ensures.0 (chosen c)

pub loop-k-preserved : goal.loop-k-preserved
loop-k-preserved c t =
    let a = c.args in
    let q = word_query a.asked a.word.now t in
    let cs = candidates a.image.now c.next_letter-letter.result.0 in
    let this = c.candidate-p.ensures in
    let here : ℕ → Type 0 = λ p. Shut a.image.now q a.place p in
    let inside : c.candidate-p.result < (header a.image.now).pairs = omega (arith, this.1, ap (λ (g : Header). g.pairs) c.requires.accepted.laid.header_is) in
    elim c.match-taken.branch [
      | in-Some+in-Nothing w ↦ let none = rw w.in-Nothing.is at (c.loop-k.invariant t) in rw w.tried-is (tried_took a.image.now q a.place cs c.loop-k.k none this.0 inside (w.in-Some.ensures t))
      | in_default w ↦ rw w.tried-is (tried_shut a.image.now q a.place cs c.loop-k.k c.loop-k.tried (c.loop-k.invariant t) (subst here this.0 (rw w.in_default.is at (c.take-taken.ensures t))))
    ]

pub returns : goal.returns
returns c t =
    let a = c.args in
    by_head a.image.now (word_query a.asked a.word.now t) a.place c.loop-k.tried c.next_letter-letter.ensures.0
    (omega (arith, c.loop-k-test.false, c.candidate_count-many.ensures)) (c.loop-k.invariant t)
