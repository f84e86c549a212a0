-- `headwords_spell` meets its contract: a word that is spelled has at most 32 letters.
use native.Mathlib.Omega.{arith}
use Prim.Native.Nat.{ℕ, ◌≤◌}
use mathlib.Core.Path.{◌≡◌, sym, ap, ◌∙◌}
use lib.ListN.{length}
use Rattle.model.specs.Beside.{Spelling, spelling_reply}
use Rattle.spelling.specs.Answers.{spelling_of}
use Rattle.spelling.proofs.Replies.{spelled_few}
use Rattle.headwords.specs.Numbers.{spelling_number}
use Rattle.headwords.proofs.headwords_spell.Goals as goal
use Rattle.headwords.proofs.headwords_spell.Goals.{In-Ok}

-- in the arm of a word that is spelled
module _ (c : In-Ok) where
  abbrev n : ℕ
  n = c.in-Ok.n

  replied : spelling_reply c.args.image.now c.args.points.now (length c.args.letters.now) ≡ Spelling.letters n
  replied = sym c.spell.ensures.reply ∙ ap spelling_of c.in-Ok.is

  few : n ≤ 32
  few = spelled_few c.args.image.now c.args.points.now (length c.args.letters.now) n replied

pub overflow_mul-result : goal.overflow_mul-result
overflow_mul-result c = omega (arith, few c)

pub overflow_add-result : goal.overflow_add-result
overflow_add-result c = omega (arith, few c)

pub returns-in-Ok : goal.returns-in-Ok
returns-in-Ok c = record { reply = sym (ap spelling_number (replied c)); bytes = c.spell.ensures.bytes }

pub returns-in-Err : goal.returns-in-Err
returns-in-Err c =
    let call = c.spell in
    record { reply = c.refusal_number.ensures ∙ ap spelling_number (sym (ap spelling_of c.in-Err.is) ∙ call.ensures.reply); bytes = call.ensures.bytes }
