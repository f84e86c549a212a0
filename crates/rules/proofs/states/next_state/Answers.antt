-- `next_state` meets its contract: the index has the column, and the row of the state begins where the table's counts say.
use native.Mathlib.Omega.{arith}
use mathlib.Core.Path.{◌≡◌, ap, ◌∙◌}
use Prim.Native.Nat.{ℕ, ◌+◌, ◌*◌, ◌-◌, ◌<◌}
use lib.ListN.{length}
use Rattle.model.specs.Lists.{byte}
use Rattle.model.specs.Blocks.{Header, header, kinds, record_start}
use Rattle.model.specs.GrammarOf.{grammar_of}
use Rattle.image.specs.Accepted.{Accepted}
use Rattle.index.proofs.Laws.{laid_rules, length_index_of}
use Rattle.rules.proofs.Tables.{accepted_here, next_within}
use Rattle.rules.proofs.Stepping.{inside, place_inside, next_read}
use Rattle.rules.proofs.states.next_state.Goals as goal
use Rattle.rules.proofs.states.next_state.Goals.{After-byte_at-states, After-record_start-at, Start}
use Rattle.rules.proofs.states.next_state.Lts as lts
use Rattle.rules.proofs.states.next_state.Tie as tie
use Rattle.rules.proofs.states.next_state.Reads as reads

-- places, without what the types tell there
abbrev Plain-After-record_start-at : Type 0
Plain-After-record_start-at = lts.After-record_start tie.the-claims reads.Pre reads.Post tie.handed_clauses

module _ (s : Start) where
  ok : Accepted s.args.image.now (header s.args.image.now)
  ok = accepted_here s.requires.accepted

  abbrev rule : s.args.r < (header s.args.image.now).rules
  rule = s.requires.r_bound.0

-- where the table begins
begins : (c : Plain-After-record_start-at) → c.record_start-at.result ≡ record_start (header c.args.image.now) 4 c.args.r
begins c = c.record_start-at.ensures.0 ∙ ap (λ (g : Header). record_start g 4 c.args.r) c.requires.accepted.laid.header_is

-- all that is read before the next state
module _ (c : After-byte_at-states) where
  abbrev place : ℕ
  place = c.record_start-at.result + (2 + 2 * c.byte_at-columns.result + c.byte_at-states.result) + (c.byte_at-columns.result * (c.args.s - 1) + c.byte_at-column.result)

  within : place < length c.args.image.now
  within = place_inside (ok c.before.before.before.before.before.before.before) c.args.r (rule c.before.before.before.before.before.before.before) c.record_start-at.result (begins c.before.before.before) c.args.index.now c.requires.index_value c.args.s c.args.p c.byte_at-column.result c.byte_at-columns.result c.byte_at-states.result c.requires.r_bound.1 c.requires.le_s.0 c.requires.le_s.1 c.byte_at-column.ensures.0 c.byte_at-columns.ensures.0 c.byte_at-states.ensures.0

  read : byte c.args.image.now place ≡ (grammar_of c.args.image.now).next c.args.r c.args.s c.args.p
  read = next_read (ok c.before.before.before.before.before.before.before) c.args.r (rule c.before.before.before.before.before.before.before) c.record_start-at.result (begins c.before.before.before) c.args.index.now c.requires.index_value c.args.s c.args.p c.byte_at-column.result c.byte_at-columns.result c.byte_at-states.result c.requires.r_bound.1 c.requires.le_s.0 c.requires.le_s.1 c.byte_at-column.ensures.0 c.byte_at-columns.ensures.0 c.byte_at-states.ensures.0

pub overflow_mul-r : goal.overflow_mul-r
overflow_mul-r c = let l = (ok (goal.at.overflow_mul-r c).Start).laid.limits in omega arith

pub overflow_add-r : goal.overflow_add-r
overflow_add-r c = let l = (ok (goal.at.overflow_add-r c).Start).laid.limits in omega arith

pub byte_at-column-requires : goal.byte_at-column-requires
byte_at-column-requires c =
    let l = (ok (goal.at.byte_at-column-requires c).Start).laid.limits in
    omega (arith, ap length c.requires.index_value ∙ length_index_of c.args.image.now, c.requires.r_bound)

pub record_start-at-requires : goal.record_start-at-requires
unfolding kinds
record_start-at-requires c = record { limited = c.requires.accepted.laid.limits; i_bound = omega (arith, laid_rules c.requires.accepted.laid) }

pub byte_at-columns-requires : goal.byte_at-columns-requires
byte_at-columns-requires c = omega (arith, inside (ok (goal.at.byte_at-columns-requires c).Start) c.args.r (rule (goal.at.byte_at-columns-requires c).Start) c.record_start-at.result (begins c.before) 0 (omega arith))

pub byte_at-states-requires : goal.byte_at-states-requires
byte_at-states-requires c = inside (ok (goal.at.byte_at-states-requires c).Start) c.args.r (rule (goal.at.byte_at-states-requires c).Start) c.record_start-at.result (begins (goal.at.byte_at-states-requires c).After-record_start-at.before) 1 (omega arith)

pub overflow_mul-place : goal.overflow_mul-place
overflow_mul-place c = omega (arith, within c, c.well_formed)

pub overflow_add-place : goal.overflow_add-place
overflow_add-place c = omega (arith, within c, c.well_formed)

pub overflow_add-place-2 : goal.overflow_add-place-2
overflow_add-place-2 c = omega (arith, within c, c.well_formed)

pub bounds-image-place : goal.bounds-image-place
bounds-image-place c = within (goal.at.bounds-image-place c).After-byte_at-states

pub returns : goal.returns
returns c =
    let e = read (goal.at.returns c).After-byte_at-states in
    (e, omega (arith, e, next_within (ok (goal.at.returns c).Start) c.args.r c.args.s c.args.p (rule (goal.at.returns c).Start) c.requires.r_bound.1 c.requires.le_s.0 c.requires.le_s.1))
