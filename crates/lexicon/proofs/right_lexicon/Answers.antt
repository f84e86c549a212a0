-- `right_lexicon` meets its contract: the lexical sides of the pairs are marked.
use mathlib.Core.Bool.{not}
use mathlib.Core.Path.{sym, ap, ◌∙◌, subst}
use mathlib.Core.List.{List}
use Prim.Native.Nat.{ℕ, ◌+◌}
use lib.ListN.{drop}
use Rattle.model.specs.Lists.{below, every}
use Rattle.image.specs.Header.{header_of}
use Rattle.letters.specs.Marks.{is_marked}
use Rattle.lexicon.specs.Entries.{MarkedLetters, is_lexicon_of}
use Rattle.lexicon.proofs.Marked.{sides_marked, spelled_lexicon}
use Rattle.lexicon.proofs.right_lexicon.Goals as goal

pub is_lexicon-requires : goal.is_lexicon-requires
is_lexicon-requires c =
    let e = c.each_marked-look in
    let letters = c.args.h.letters in
    let is = c.lexical_marks-marked.ensures in
    let told = e.ensures ∙ ap (λ (m : List ℕ). every (is_marked m) (drop 2 (below (letters + 1)))) is in
    let marks = sides_marked c.args.image.now (header_of c.args.h) c.requires.laid c.requires.t e.result told in
    record { laid = c.requires.laid; marked_letters = subst (λ (m : List ℕ). MarkedLetters m letters (not e.result)) (sym is) marks }

pub returns : goal.returns
returns c =
    c.is_lexicon.ensures
    ∙ ap (λ (m : List ℕ). is_lexicon_of (is_marked m) c.args.image.now (header_of c.args.h)) c.lexical_marks-marked.ensures
    ∙ spelled_lexicon c.args.image.now (header_of c.args.h) c.requires.laid c.requires.t
