-- `judge_accepted` meets its contract: tests 11 to 13 in order, and then the reading.
use mathlib.Core.Bool.{true}
use mathlib.Core.Path.{◌≡◌, sym, ap, ◌∙◌}
use Rattle.model.specs.Blocks.{Header, header}
use Rattle.model.proofs.Booleans.{of_true}
use Rattle.judge.proofs.Judgements.{test11, test12, test13, refused_11, refused_12, refused_13, decided, told}
use Rattle.judge.proofs.judge_accepted.Goals as goal
use Rattle.judge.proofs.judge_accepted.Goals.{After-pairing_right, Else-not-pairing_right, Else-not-path_length_right, Else-not-path_linked}
use Rattle.judge.proofs.judge_accepted.Lts as lts
use Rattle.judge.proofs.judge_accepted.Tie as tie
use Rattle.judge.proofs.judge_accepted.Reads as reads

-- places, without what the types tell there
abbrev Plain-After-pairing_right : Type 0
Plain-After-pairing_right = lts.After-pairing_right tie.the-claims reads.Pre reads.Post tie.handed_clauses

-- past each test, it holds
length_right : (c : Else-not-path_length_right) → let a = c.args in test11 a.image.now a.path.now a.pairing.now ≡ true
length_right c = sym c.path_length_right.ensures ∙ c.if-not-path_length_right.false

path_right : (c : Else-not-path_linked) → let a = c.args in test12 a.image.now a.path.now a.pairing.now ≡ true
path_right c = sym c.path_linked.ensures ∙ c.if-not-path_linked.false

-- the header is the image's own
pairing_told : (c : Plain-After-pairing_right) → let a = c.args in c.pairing_right.result ≡ test13 a.image.now a.path.now a.pairing.now (header a.image.now).pairs
pairing_told c =
    c.pairing_right.ensures ∙ ap (test13 c.args.image.now c.args.path.now c.args.pairing.now) (ap (λ (h : Header). h.pairs) c.requires.accepted.laid.header_is)

pairing_right : (c : Else-not-pairing_right) → let a = c.args in test13 a.image.now a.path.now a.pairing.now (header a.image.now).pairs ≡ true
pairing_right c = sym (pairing_told c.before.before) ∙ c.if-not-pairing_right.false

pub returns-then-not-path_length_right : goal.returns-then-not-path_length_right
returns-then-not-path_length_right c =
    let a = c.args in
    refused_11 a.image.now a.path.now a.pairing.now (sym c.path_length_right.ensures ∙ c.if-not-path_length_right.true)

pub returns-then-not-path_linked : goal.returns-then-not-path_linked
returns-then-not-path_linked c =
    let a = c.args in
    refused_12 a.image.now a.path.now a.pairing.now (length_right (goal.at.returns-then-not-path_linked c).Else-not-path_length_right) (sym c.path_linked.ensures ∙ c.if-not-path_linked.true)

pub returns-then-not-pairing_right : goal.returns-then-not-pairing_right
returns-then-not-pairing_right c =
    let a = c.args in
    refused_13 a.image.now a.path.now a.pairing.now (length_right (goal.at.returns-then-not-pairing_right c).Else-not-path_length_right) (path_right (goal.at.returns-then-not-pairing_right c).Else-not-path_linked) (sym (pairing_told (goal.at.returns-then-not-pairing_right c).After-pairing_right.before) ∙ c.if-not-pairing_right.true)

pub is_reading-requires : goal.is_reading-requires
is_reading-requires c =
    record { accepted = c.requires.accepted; index_value = c.fill_index.ensures; t = (of_true _ (length_right (goal.at.is_reading-requires c).Else-not-path_length_right), of_true _ (path_right (goal.at.is_reading-requires c).Else-not-path_linked)); t_2 = of_true _ (pairing_right (goal.at.is_reading-requires c).Else-not-pairing_right) }

pub returns : goal.returns
returns c =
    let a = c.args in
    let short = length_right (goal.at.returns c).Else-not-path_length_right in
    let linked = path_right (goal.at.returns c).Else-not-path_linked in
    let feasible = pairing_right (goal.at.returns c).Else-not-pairing_right in
    told c.is_reading.result
    ∙ decided a.image.now a.path.now a.pairing.now short linked feasible c.is_reading.result (sym c.is_reading.ensures)
