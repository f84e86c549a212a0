-- Each line is a rule's, since the text is one of rules, and is asked whether its pairs are known.
use mathlib.Core.Path.{sym, ◌∙◌}
use Rattle.rule_texts.specs.Text.{pairs_known}
use Rattle.rule_texts.proofs.Each.{asked_all, asked_more, asked_fails, asked_here, rule_line, knows_line, rule_lines}
use Rattle.rule_texts.proofs.text.pairs_known.Goals as goal

pub knows_pairs-requires : goal.knows_pairs-requires
knows_pairs-requires c =
    let t = c.args.text.now in
    asked_here rule_line t c.loop-line.rest.now c.loop-line.invariant.right c.in-Some.line.now c.in-Some.after.now c.in-Some.ensures (rule_lines t c.requires)

pub returns-then-not-knows_pairs : goal.returns-then-not-knows_pairs
unfolding pairs_known
returns-then-not-knows_pairs c =
    let a = c.args in
    let off = sym c.knows_pairs.ensures ∙ c.if-not-knows_pairs.true in
    sym (asked_fails (knows_line a.pairs) a.text.now c.loop-line.rest.now c.loop-line.invariant.known c.in-Some.line.now c.in-Some.after.now c.in-Some.ensures off)

pub loop-line-preserved : goal.loop-line-preserved
loop-line-preserved c =
    let a = c.args in
    let t = a.text.now in
    let u = c.loop-line.rest.now in
    let line = c.in-Some.line.now in
    let v = c.in-Some.after.now in
    let first = c.in-Some.ensures in
    let right = c.loop-line.invariant.right in
    record {
      right = asked_more rule_line t u right line v first (asked_here rule_line t u right line v first (rule_lines t c.requires));
      known = asked_more (knows_line a.pairs) t u c.loop-line.invariant.known line v first (sym c.knows_pairs.ensures ∙ c.if-not-knows_pairs.false);
    }

pub returns : goal.returns
unfolding pairs_known
returns c = let a = c.args in sym (asked_all (knows_line a.pairs) a.text.now c.loop-line.rest.now c.loop-line.invariant.known c.in_default.ensures)
