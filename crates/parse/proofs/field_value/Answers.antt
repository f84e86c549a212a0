-- `field_value` meets its contract: after each turn the digits before the next byte are read.
use native.Mathlib.Omega.{arith}
use mathlib.Core.Logic.{◌≢◌}
use mathlib.Core.Path.{◌≡◌, sym, subst, ◌∙◌}
use lib.ListN.{length, get_or}
use borrow.Author.Tests.{tests}
use borrow.Author.Rules.{rules}
use Rattle.parse.proofs.Fields.{Digits, told_empty, told_long, told_other, told_value, digits_none, digits_more, digit_few, digits_few}
use Rattle.parse.proofs.field_value.Goals as goal
use Rattle.parse.proofs.field_value.Goals.{then-is_empty-via-then-is_empty, then-is_empty-via-else-is_empty+then-field-gt3}

pub returns-then-is_empty : goal.returns-then-is_empty
returns-then-is_empty c =
    elim c.then-is_empty.branch [
      | then-is_empty-via-then-is_empty w ↦ let e : length c.args.field.now ≡ 0 = search (rules, tests) in told_empty c.args.field.now (omega arith)
      | then-is_empty-via-else-is_empty+then-field-gt3 w ↦ told_long c.args.field.now (omega (arith, w.if-field-gt3.true))
    ]

pub loop-b-init : goal.loop-b-init
loop-b-init c = digits_none c.args.field.now

pub returns-then-not-is_ascii_digit : goal.returns-then-not-is_ascii_digit
returns-then-not-is_ascii_digit c = told_other c.args.field.now c.loop-b.b-index c.loop-b-test.true (sym c.is_ascii_digit.ensures.value ∙ c.if-not-is_ascii_digit.true)

pub overflow_mul-value : goal.overflow_mul-value
overflow_mul-value c = omega (arith, digits_few c.args.field.now c.loop-b.b-index c.loop-b.value c.loop-b.invariant (omega arith))

pub overflow_add-value : goal.overflow_add-value
overflow_add-value c =
    let few = digits_few c.args.field.now c.loop-b.b-index c.loop-b.value c.loop-b.invariant (omega arith) in
    omega (arith, few, digit_few (get_or c.args.field.now c.loop-b.b-index 0) (sym c.is_ascii_digit.ensures.value ∙ c.if-not-is_ascii_digit.false))

pub loop-b-preserved : goal.loop-b-preserved
loop-b-preserved c =
    rw c.from.ensures (digits_more c.args.field.now c.loop-b.b-index c.loop-b.value c.loop-b.invariant c.loop-b-test.true (sym c.is_ascii_digit.ensures.value ∙ c.if-not-is_ascii_digit.false))

pub returns : goal.returns
returns c =
    let all : c.loop-b.b-index ≡ length c.args.field.now = omega arith in
    let some : length c.args.field.now ≢ 0 = search (rules, tests) in
    let digits = subst (λ n. Digits c.args.field.now n c.loop-b.value) all c.loop-b.invariant in
    c.ok.ensures.value ∙ told_value c.args.field.now c.loop-b.value c.try_from.result (omega arith) c.if-field-gt3.false digits c.try_from.ensures
