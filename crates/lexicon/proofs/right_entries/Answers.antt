-- `right_entries` meets its contract: the letters from 2 to L are marked.
use mathlib.Core.Bool.{false}
use mathlib.Core.Path.{sym, ap, ◌∙◌, subst}
use mathlib.Core.List.{List}
use Prim.Native.Nat.{ℕ}
use Rattle.image.specs.Header.{header_of}
use Rattle.letters.specs.Marks.{is_marked}
use Rattle.lexicon.specs.Entries.{MarkedLetters, is_lexicon_of}
use Rattle.lexicon.proofs.Marked.{letters_marked, letters_lexicon}
use Rattle.lexicon.proofs.right_entries.Goals as goal

pub is_lexicon-requires : goal.is_lexicon-requires
is_lexicon-requires c =
    let letters = c.args.h.letters in
    record { laid = c.requires; marked_letters = subst (λ (m : List ℕ). MarkedLetters m letters false) (sym c.letter_marks-marked.ensures) (letters_marked letters c.requires.limits.letters_most) }

pub returns : goal.returns
returns c =
    c.is_lexicon.ensures ∙ ap (λ (m : List ℕ). is_lexicon_of (is_marked m) c.args.image.now (header_of c.args.h)) c.letter_marks-marked.ensures ∙ letters_lexicon c.args.image.now (header_of c.args.h) c.requires
