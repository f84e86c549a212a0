-- `headwords_convert` meets its contract: the converter's reply as its number, and its target.
use mathlib.Core.Path.{sym, ap, ◌∙◌}
use Rattle.converter.specs.Answers.{conversion_of}
use Rattle.headwords.specs.Numbers.{conversion_number}
use Rattle.headwords.proofs.headwords_convert.Goals as goal

pub returns-in-Ok : goal.returns-in-Ok
returns-in-Ok c = let call = c.convert in record { reply = ap conversion_number (sym (ap conversion_of c.in-Ok.is) ∙ call.ensures.reply); bytes = call.ensures.target }

pub returns-in-Err : goal.returns-in-Err
returns-in-Err c =
    let call = c.convert in
    record { reply = c.refusal_number.ensures ∙ ap conversion_number (sym (ap conversion_of c.in-Err.is) ∙ call.ensures.reply); bytes = call.ensures.target }
