-- `for_run` meets its contract: tests 1 to 6 of the image, and then what there is of one that passes them.
use mathlib.Core.Path.{refl, sym, ap, subst, ◌∙◌}
use Rattle.grammar.specs.Answers.{verdict_of}
use Rattle.grammar.proofs.Verdicts.{refused_early}
use Rattle.refusal.proofs.Given.{same_refusal}
use Rattle.prepare.specs.Had.{Had}
use Rattle.prepare.proofs.for_run.Goals as goal

pub for_many-requires : goal.for_many-requires
for_many-requires c =
    record { image_value = sym c.check_tables.ensures ∙ ap verdict_of c.in_ok-check_tables.was; index_value = c.requires }

pub returns-in_err-check_tables : goal.returns-in_err-check_tables
returns-in_err-check_tables c =
    let same = (same_refusal c.from_residual.result _ c.from_residual.ensures.1) in
    record {
      had = subst (Had c.args.image.now c.args.index.now) (sym same) (sym (refused_early c.args.image.now _ (sym c.in_err-check_tables.ensures)));
      kept = rw same refl;
    }
