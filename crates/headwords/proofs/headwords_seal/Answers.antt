-- `headwords_seal` meets its contract.
use mathlib.Core.Path.{sym, ap, ◌∙◌}
use Rattle.image.specs.Sealing.{sealing_of}
use Rattle.headwords.specs.Numbers.{sealing_number}
use Rattle.headwords.proofs.headwords_seal.Goals as goal

pub returns-in-Ok : goal.returns-in-Ok
returns-in-Ok c = let seal = c.seal in record { reply = ap sealing_number (sym (ap sealing_of c.in-Ok.is) ∙ seal.ensures.0); bytes = seal.ensures.1 }

pub returns-in-Err : goal.returns-in-Err
returns-in-Err c =
    let seal = c.seal in
    record { reply = c.refusal_number.ensures ∙ ap sealing_number (sym (ap sealing_of c.in-Err.is) ∙ seal.ensures.0); bytes = seal.ensures.1 }
