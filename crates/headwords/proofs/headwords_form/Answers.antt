-- `headwords_form` meets its contract: the refusal, the length where the buffer is too short, or the letters.
use native.Mathlib.Omega.{arith}
use mathlib.Core.Path.{◌≡◌, refl, sym, ap, ◌∙◌}
use Prim.Native.Nat.{ℕ}
use mathlib.Core.List.{List, ◌++◌}
use lib.ListN.{length, drop}
use borrow.Author.Tests.{le-leb, lt-leb}
use Rattle.std.proofs.lemmas.List.{length-take-le}
use Rattle.model.specs.Beside as beside
use Rattle.model.specs.Beside.{form_reply, viewed}
use Rattle.grammar.specs.Answers.{form_reply_of}
use Rattle.grammar.proofs.Verdicts.{Viewed, viewed_there}
use Rattle.headwords.specs.Numbers.{form_number}
use Rattle.headwords.proofs.Replies.{form_refused, form_short, form_fits, letters_are}
use Rattle.headwords.proofs.headwords_form.Goals as goal
use Rattle.headwords.proofs.headwords_form.Goals.{In-Ok}

-- in the arm of an entry that is there
replied : (c : In-Ok) → form_reply c.args.image.now c.args.entry ≡ beside.FormReply.letters c.in-Ok.n
replied c = sym c.form_reply.ensures ∙ ap form_reply_of c.in-Ok.is

there : (c : In-Ok) → Viewed c.args.image.now c.args.entry c.in-Ok.n
there c = viewed_there c.args.image.now c.args.entry c.in-Ok.n (replied c)

pub overflow_mul-result : goal.overflow_mul-result
overflow_mul-result c = omega (arith, (there (goal.at.overflow_mul-result c).In-Ok).few)

pub overflow_add-result : goal.overflow_add-result
overflow_add-result c = omega (arith, (there (goal.at.overflow_add-result c).In-Ok).few)

pub returns-then-out-n : goal.returns-then-out-n
returns-then-out-n c =
    let a = c.args in
    let n = c.in-Ok.n in
    let said = replied (goal.at.returns-then-out-n c).In-Ok in
    record {
      reply = sym (ap (form_number (length a.out.now)) said ∙ rw (lt-leb n (length a.out.now) c.if-out-n.true) refl);
      bytes = form_short a.image.now a.entry a.out.now n said c.if-out-n.true;
    }

pub form_part-requires : goal.form_part-requires
form_part-requires c = replied (goal.at.form_part-requires c).In-Ok

pub overflow_mul-result-in-Ok : goal.overflow_mul-result-in-Ok
overflow_mul-result-in-Ok c = omega (arith, (there (goal.at.overflow_mul-result-in-Ok c).In-Ok).few)

pub overflow_add-result-in-Ok : goal.overflow_add-result-in-Ok
overflow_add-result-in-Ok c = omega (arith, (there (goal.at.overflow_add-result-in-Ok c).In-Ok).few)

pub returns-in-Err : goal.returns-in-Err
returns-in-Err c =
    let a = c.args in
    let refused = sym c.form_reply.ensures ∙ ap form_reply_of c.in-Err.is in
    record { reply = c.refusal_number.ensures ∙ sym (ap (form_number (length a.out.now)) refused); bytes = form_refused a.image.now a.entry a.out.now _ refused }

pub copy_from_slice-requires : goal.copy_from_slice-requires
copy_from_slice-requires c =
    let a = c.args in
    length-take-le c.in-Ok.n a.out.now c.if-out-n.false ∙ sym (ap length c.form_part.ensures ∙ letters_are a.image.now a.entry a.out.now c.in-Ok.n (replied (goal.at.copy_from_slice-requires c).In-Ok))

pub returns-else-out-n-clause-reply : goal.returns-else-out-n-clause-reply
returns-else-out-n-clause-reply c =
    let n = c.in-Ok.n in
    sym (ap (form_number (length c.args.out.now)) (replied (goal.at.returns-else-out-n-clause-reply c).In-Ok) ∙ rw (le-leb n (length c.args.out.now) c.if-out-n.false) refl)

pub returns-else-out-n-clause-bytes : goal.returns-else-out-n-clause-bytes
returns-else-out-n-clause-bytes c =
    let a = c.args in
    let n = c.in-Ok.n in
    let told = replied (goal.at.returns-else-out-n-clause-bytes c).In-Ok in
    let form = viewed a.image.now a.entry in
    ap (λ (s : List ℕ). s ++ drop n a.out.now) (c.copy_from_slice.ensures.after ∙ c.form_part.ensures) ∙ ap (λ (m : ℕ). form ++ drop m a.out.now) (sym (letters_are a.image.now a.entry a.out.now n told)) ∙ form_fits a.image.now a.entry a.out.now n told c.if-out-n.false
