-- `can_start` meets its contract: at the loop's head what is left of the candidate pairs decides.
use native.Mathlib.Omega.{arith}
use mathlib.Core.Path.{sym, ◌∙◌}
use Rattle.listing.specs.Asked.{word_query}
use Rattle.listing.specs.Places.{rest_of}
use Rattle.ahead.proofs.Candidates.{Candidate, candidate_spells}
use Rattle.ahead.proofs.FirstLetters.{left_none, left_more, left_found, left_all}
use Rattle.ahead.proofs.starts.can_start.Goals as goal
use Rattle.ahead.proofs.starts.can_start.Goals.{After-candidate-p}

pub loop-k-init : goal.loop-k-init
loop-k-init c t = let a = c.args in left_none a.image.now (word_query a.asked a.word.now t) a.place a.letter.0

-- the candidate of a turn
chosen : (c : After-candidate-p) → let a = c.args in Candidate a.image.now a.letter.0 c.loop-k.k c.candidate-p.result
chosen c = record { inside = omega (arith, c.loop-k-test.true, c.candidate_count-many.ensures); this = c.candidate-p.ensures.0 }

pub take-taken-requires-clause-t : goal.take-taken-requires-clause-t
take-taken-requires-clause-t c = candidate_spells (rest_of c.args.image.now c.args.place) c.requires.letter_value.0 (chosen c)

pub returns-then-is_some : goal.returns-then-is_some
returns-then-is_some c t =
    let a = c.args in
    let taken = c.take-taken in
    left_found (word_query a.asked a.word.now t) a.place (chosen (goal.at.returns-then-is_some c).After-candidate-p) (c.loop-k.invariant t) taken.result (taken.ensures t)
    (sym c.is_some.ensures ∙ c.if-is_some.true)

pub loop-k-preserved : goal.loop-k-preserved
loop-k-preserved c t =
    let a = c.args in
    let taken = c.take-taken in
    left_more (word_query a.asked a.word.now t) a.place (chosen (goal.at.loop-k-preserved c).After-candidate-p) (c.loop-k.invariant t) taken.result (taken.ensures t)
    (sym c.is_some.ensures ∙ c.if-is_some.false)

pub returns : goal.returns
returns c t =
    let a = c.args in
    left_all a.image.now (word_query a.asked a.word.now t) a.place a.letter.0 c.loop-k.k (omega (arith, c.loop-k-test.false, c.candidate_count-many.ensures)) (c.loop-k.invariant t)
