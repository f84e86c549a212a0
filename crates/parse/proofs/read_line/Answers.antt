-- `read_line` meets its contract: field after field, each a number whose value is a letter more.
use borrow.Author.Rules.{rules}
use borrow.Author.Tests.{tests}
use native.Mathlib.Omega.{arith}
use mathlib.Core.Logic.{◌≢◌}
use mathlib.Core.Path.{◌≡◌, refl, sym, ap, ◌∙◌}
use Prim.Native.Nat.{◌<◌}
use lib.ListN.{length, get_or}
use Rattle.std.proofs.lemmas.List.{length_push}
use Rattle.std.proofs.lemmas.Iterator.Consumers.{YieldsList-turn, YieldsList-end}
use Rattle.std.proofs.lemmas.Iterator.Splits.{YieldsList-from_slice_split}
use Rattle.model.specs.Lines.{fields_of}
use Rattle.parse.proofs.Fields.{fields_parts, line_none, word_none, read_none, next_field, line_read, word_read, few_letters, line_unread, word_unread, letter_room, read_more}
use Rattle.parse.proofs.read_line.Goals as goal
use Rattle.parse.proofs.read_line.Goals.{In-Some, In-None}

pub returns-then-is_empty-clause-word : goal.returns-then-is_empty-clause-word
returns-then-is_empty-clause-word c = let none : length c.args.line.now ≡ 0 = search (rules, tests) in line_none c.args.line.now c.args.word.now none

pub returns-then-is_empty-clause-bytes : goal.returns-then-is_empty-clause-bytes
returns-then-is_empty-clause-bytes c = let none : length c.args.line.now ≡ 0 = search (rules, tests) in word_none c.args.line.now c.args.word.now none

pub loop-field-init : goal.loop-field-init
loop-field-init c = (refl, read_none c.args.line.now c.args.word.now c.told-word)

-- the part of a turn is the next field
next : (c : In-Some) → (c.loop-field.letters < length (fields_of c.args.line.now)) × (c.in-Some.field.now ≡ get_or (fields_of c.args.line.now) c.loop-field.letters c.in-Some.field.now)
next c =
    next_field c.args.line.now c.in-Some.field.now c.loop-field.letters (length c.loop-field.yielded) c.loop-field.invariant.0
    (YieldsList-turn (YieldsList-from_slice_split _ _ c.args.line.now (cc) (cc) (cc) (λ x b q k. search (rules, tests)))
    c.loop-field.yielded _ c.loop-field.yielded_by _ _ c.in-Some.field c.in-Some.is c.next.ensures.steps)

some : (c : In-Some) → 0 < length c.args.line.now
some c = let h : length c.args.line.now ≢ 0 = search (rules, tests) in omega arith

pub returns-in_err-word-clause-word : goal.returns-in_err-word-clause-word
returns-in_err-word-clause-word c =
    let at = (goal.at.returns-in_err-word-clause-word c).In-Some in
    rw c.from_residual.ensures (line_unread _ _ _ _ c.requires c.loop-field.invariant.1 _ (next at) (sym c.in_err-word.ensures) (some at))

pub returns-in_err-word-clause-bytes : goal.returns-in_err-word-clause-bytes
returns-in_err-word-clause-bytes c =
    word_unread _ _ _ _ c.requires c.loop-field.invariant.1 _ (next (goal.at.returns-in_err-word-clause-bytes c).In-Some) (sym c.in_err-word.ensures)

pub bounds-word-letters : goal.bounds-word-letters
bounds-word-letters c =
    let room = letter_room _ _ _ _ c.requires c.loop-field.invariant.1 _ (next (goal.at.bounds-word-letters c).In-Some) _ (sym c.in_ok-word.ensures) in
    omega (arith, room, c.loop-field.invariant.1.long)

pub loop-field-preserved : goal.loop-field-preserved
loop-field-preserved c = (
  omega (arith, length_push c.loop-field.yielded c.in-Some.field),
  read_more _ _ _ _ c.requires c.loop-field.invariant.1 _ (next (goal.at.loop-field-preserved c).In-Some) _ (sym c.in_ok-word.ensures),
)

-- after the last part all fields are read
all : (c : In-None) → c.loop-field.letters ≡ length (fields_of c.args.line.now)
all c =
    c.loop-field.invariant.0
    ∙ (YieldsList-end (YieldsList-from_slice_split _ _ c.args.line.now (cc) (cc) (cc) (λ x b q k. search (rules, tests)))
    c.loop-field.yielded _ c.loop-field.yielded_by _ _ c.in-None.is c.next.ensures.steps).1
    ∙ ap length (fields_parts c.args.line.now)

pub returns-clause-word : goal.returns-clause-word
returns-clause-word c =
    let h : length c.args.line.now ≢ 0 = search (rules, tests) in
    line_read _ _ _ _ c.requires c.loop-field.invariant.1 (all c) (omega arith)

pub returns-clause-few : goal.returns-clause-few
returns-clause-few c = few_letters _ _ _ _ c.requires c.loop-field.invariant.1 (all c)

pub returns-clause-bytes : goal.returns-clause-bytes
returns-clause-bytes c = word_read _ _ _ _ c.requires c.loop-field.invariant.1 (all c)
