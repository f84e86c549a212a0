-- `headwords_analyse_words` meets its contract: no more words than places for replies, so their number is in range.
use native.Mathlib.Omega.{arith}
use Prim.Native.Nat.{ℕ, ◌*◌, ◌≤◌}
use mathlib.Core.Path.{◌≡◌, sym, ap, ◌∙◌}
use lib.ListN.{length}
use Rattle.shares.specs.Words.{ManyReply, many_reply}
use Rattle.many.specs.Answers.{many_of}
use Rattle.shares.proofs.Replies.{answered_few}
use Rattle.headwords.specs.Numbers.{many_number}
use Rattle.headwords.proofs.headwords_analyse_words.Goals as goal
use Rattle.headwords.proofs.headwords_analyse_words.Goals.{In-Ok}

-- in the arm of words that are answered
module _ (c : In-Ok) where
  abbrev n : ℕ
  n = c.in-Ok.n

  replied : many_reply c.args.image.now c.args.words.now c.args.replies.now ≡ ManyReply.words n
  replied = sym c.analyse_words.ensures.reply ∙ ap many_of c.in-Ok.is

  few : 8 * n ≤ length c.args.replies.now
  few = answered_few c.args.image.now c.args.words.now c.args.replies.now n replied

pub overflow_mul-result : goal.overflow_mul-result
overflow_mul-result c = omega (arith, few c, c.well_formed.1.1.0.0)

pub overflow_add-result : goal.overflow_add-result
overflow_add-result c = omega (arith, few c, c.well_formed.1.1.0.0)

pub returns-in-Ok : goal.returns-in-Ok
returns-in-Ok c = record { reply = sym (ap many_number (replied c)); replies = c.analyse_words.ensures.replies; rows = c.analyse_words.ensures.rows }

pub returns-in-Err : goal.returns-in-Err
returns-in-Err c =
    let call = c.analyse_words in
    record { reply = c.refusal_number.ensures ∙ ap many_number (sym (ap many_of c.in-Err.is) ∙ call.ensures.reply); replies = call.ensures.replies; rows = call.ensures.rows }
