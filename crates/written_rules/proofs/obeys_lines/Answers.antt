-- Each line is a rule's with known pairs, since the text is one of such rules, and is asked whether the pairing obeys it.
use mathlib.Core.Path.{sym, ◌∙◌}
use Rattle.model.specs.GrammarOf.{grammar_of}
use Rattle.rule_texts.specs.Text.{obeys_text}
use Rattle.rule_texts.proofs.Each.{asked_all, asked_more, asked_fails, asked_here, rule_line, knows_line, rule_lines, known_lines}
use Rattle.written_rules.proofs.obeys_lines.Invariants.{obeysIt}
use Rattle.written_rules.proofs.obeys_lines.Goals as goal

pub obeys_line-requires-clause-line_value : goal.obeys_line-requires-clause-line_value
obeys_line-requires-clause-line_value c =
    let a = c.args in
    let t = a.text.now in
    let u = c.loop-line.rest.now in
    let line = c.in-Some.line.now in
    let v = c.in-Some.after.now in
    let right = asked_here rule_line t u c.loop-line.invariant.right line v c.in-Some.ensures (rule_lines t c.requires.text_value.0) in
    let known = asked_here (knows_line a.h.pairs) t u c.loop-line.invariant.known line v c.in-Some.ensures (known_lines a.h.pairs t c.requires.text_value.1) in
    (right, known)

pub returns-then-not-obeys_line : goal.returns-then-not-obeys_line
unfolding obeys_text
returns-then-not-obeys_line c =
    let a = c.args in
    let ask = obeysIt (grammar_of a.image.now).lexical in
    let off = c.if-not-obeys_line.true in
    λ ps l. let so_far = c.loop-line.invariant.obeyed ps l in
    sym (asked_fails (ask ps) a.text.now c.loop-line.rest.now so_far c.in-Some.line.now c.in-Some.after.now c.in-Some.ensures (sym (c.obeys_line.ensures ps l) ∙ off))

pub loop-line-preserved : goal.loop-line-preserved
loop-line-preserved c =
    let a = c.args in
    let t = a.text.now in
    let u = c.loop-line.rest.now in
    let line = c.in-Some.line.now in
    let v = c.in-Some.after.now in
    let first = c.in-Some.ensures in
    let know = knows_line a.h.pairs in
    let ask = obeysIt (grammar_of a.image.now).lexical in
    let r = c.loop-line.invariant.right in
    let k = c.loop-line.invariant.known in
    let on = c.if-not-obeys_line.false in
    record {
      right = asked_more rule_line t u r line v first (asked_here rule_line t u r line v first (rule_lines t c.requires.text_value.0));
      known = asked_more know t u k line v first (asked_here know t u k line v first (known_lines a.h.pairs t c.requires.text_value.1));
      obeyed = λ ps l. asked_more (ask ps) t u (c.loop-line.invariant.obeyed ps l) line v first (sym (c.obeys_line.ensures ps l) ∙ on);
    }

pub returns : goal.returns
unfolding obeys_text
returns c =
    let a = c.args in
    λ ps l. sym (asked_all (obeysIt (grammar_of a.image.now).lexical ps) a.text.now c.loop-line.rest.now (c.loop-line.invariant.obeyed ps l) c.in_default.ensures)
