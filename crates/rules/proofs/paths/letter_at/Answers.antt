-- `letter_at` meets its contract: the letter asked for is one of the forms that are left.
use native.Mathlib.Omega.{arith}
use mathlib.Core.List.{List, map}
use mathlib.Core.Path.{◌≡◌, refl, sym, ap, ◌∙◌}
use Prim.Native.Nat.{ℕ, ◌+◌, ◌-◌, ◌*◌, ◌/◌, ◌<◌}
use lib.ListN.{length, get_or, drop}
use Rattle.model.specs.Lists.{joined, number}
use Rattle.model.specs.Blocks.{Header}
use Rattle.model.specs.Lexicon.{entry, form_length}
use Rattle.model.specs.GrammarOf.{grammar_of}
use Rattle.model.specs.Query.{entry_numbers}
use Rattle.image.specs.Accepted.{Accepted}
use Rattle.rules.specs.Paths.{Entered, forms_of}
use Rattle.rules.proofs.PathLaws.{laid_entries, length_entry_numbers, entry_number, entered_at, forms_none, letter_here, letter_later, letter_alike, over_alike, grammar_form, form_length_lem}
use Rattle.rules.proofs.paths.letter_at.Goals as goal

-- the entry that is passed
module _ {image : List ℕ} {h : Header} (ok : Accepted image h) (path : List ℕ) (entered : Entered image path) (i e : ℕ) (there : i < length path / 2) (read : e ≡ number path (2 * i)) where
  inside : i < length (entry_numbers path)
  inside = omega (arith, length_entry_numbers path)

  this : get_or (entry_numbers path) i 0 ≡ e
  this = entry_number path i there ∙ sym read

  is_entry : e < h.entries
  is_entry = omega (arith, entered_at image path i entered there, read, laid_entries ok.laid)

  size : (n : ℕ) → n ≡ form_length (entry image e) → n ≡ length ((grammar_of image).form e)
  size n s = s ∙ sym (form_length_lem ok e is_entry)

pub loop-i-init : goal.loop-i-init
loop-i-init c = refl

pub form_length-n-requires : goal.form_length-n-requires
form_length-n-requires c =
    record {
      laid = c.requires.accepted.laid;
      e_lt_entries = is_entry c.requires.accepted c.args.path.now c.requires.entered c.loop-i.i c.number_at-e.result (omega arith) c.number_at-e.ensures.0;
    }

pub form_letter-requires : goal.form_letter-requires
form_letter-requires c =
    record {
      accepted = c.requires.accepted;
      e_lt_entries =
          (is_entry c.requires.accepted c.args.path.now c.requires.entered c.loop-i.i c.number_at-e.result (omega arith) c.number_at-e.ensures.0, omega (arith, c.form_length-n.ensures.0));
    }

pub returns-then-left-n : goal.returns-then-left-n
returns-then-left-n c =
    let ok = c.requires.accepted in
    let path = c.args.path.now in
    let i = c.loop-i.i in
    let e = c.number_at-e.result in
    let there : i < length path / 2 = omega arith in
    let read = c.number_at-e.ensures.0 in
    let here = inside ok path c.requires.entered i e there read in
    let is = this ok path c.requires.entered i e there read in
    let long = size ok path c.requires.entered i e there read c.form_length-n.result c.form_length-n.ensures.0 in
    let letter = letter_here (grammar_of c.args.image.now).form (entry_numbers path) i c.loop-i.left e here is (omega (arith, long)) in
    let asked = letter_alike _ (forms_of c.args.image.now path) c.loop-i.left c.args.t c.loop-i.invariant letter.0 in
    (asked.0, c.form_letter.ensures ∙ ap (λ (l : List ℕ). get_or l c.loop-i.left 0) (sym (grammar_form ok e)) ∙ sym letter.1 ∙ asked.1)

pub loop-i-preserved : goal.loop-i-preserved
loop-i-preserved c =
    let ok = c.requires.accepted in
    let path = c.args.path.now in
    let form = (grammar_of c.args.image.now).form in
    let i = c.loop-i.i in
    let e = c.number_at-e.result in
    let es = entry_numbers path in
    let there : i < length path / 2 = omega arith in
    let read = c.number_at-e.ensures.0 in
    let here = inside ok path c.requires.entered i e there read in
    let is = this ok path c.requires.entered i e there read in
    let long = size ok path c.requires.entered i e there read c.form_length-n.result c.form_length-n.ensures.0 in
    ap (λ (n : ℕ). drop (c.loop-i.left - n) (joined (map form (drop (i + 1) es)))) long
    ∙ sym (letter_later form es i c.loop-i.left e here is (omega (arith, long)))
    ∙ c.loop-i.invariant

pub returns : goal.returns
returns c =
    let es = entry_numbers c.args.path.now in
    over_alike _ (forms_of c.args.image.now c.args.path.now) c.loop-i.left c.args.t c.loop-i.invariant
    (forms_none (grammar_of c.args.image.now).form es c.loop-i.i c.loop-i.left (omega (arith, length_entry_numbers c.args.path.now)))
