-- Each line is asked, as many as there may be; after so many, none may be left.
use native.Mathlib.Omega.{arith}
use mathlib.Core.Path.{◌≡◌, sym, ◌∙◌}
use Rattle.rule_texts.proofs.Each.{asked_all, asked_fails, rule_line, wrong_line, right_text, none_there, asked_most}
use Rattle.rule_texts.proofs.text.is_text.Goals as goal

pub returns-in_default : goal.returns-in_default
returns-in_default c =
    let t = c.args.text.now in
    let u = c.loop-lines.rest.now in
    let over = c.in_default.ensures in
    sym (right_text t (omega (arith, c.loop-lines-test.true, c.loop-lines.invariant.counted, none_there u over)) (asked_all rule_line t u c.loop-lines.invariant.right over))

pub returns-then-not-is_rule : goal.returns-then-not-is_rule
returns-then-not-is_rule c =
    let t = c.args.text.now in
    let off = sym c.is_rule.ensures ∙ c.if-not-is_rule.true in
    sym (wrong_line t (asked_fails rule_line t c.loop-lines.rest.now c.loop-lines.invariant.right c.in-Some.line.now c.in-Some.after.now c.in-Some.ensures off))

pub returns : goal.returns
returns c =
    let l = c.loop-lines in
    let all : l._lines ≡ 32 = omega (arith, c.loop-lines-test.false, l.auto._lines-end) in
    c.is_empty.ensures ∙ sym (asked_most c.args.text.now l.rest.now l.invariant.right (omega (arith, all, l.invariant.counted)))
