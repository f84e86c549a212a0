-- `ends` meets its contract: each test of the end in turn.
use borrow.Author.Tests.{lt-ltb}
use native.Mathlib.Omega.{arith}
use mathlib.Core.Bool.{true, false, ◌&&◌}
use mathlib.Core.Path.{◌≡◌, refl, sym, ap, ◌∙◌}
use Prim.Native.Nat.{ℕ, ◌<◌}
use lib.Dec.{ltb}
use Rattle.model.specs.GrammarOf.{grammar_of}
use Rattle.model.specs.Tree.{complete}
use Rattle.rules.specs.Live.{finish_of}
use Rattle.listing.specs.Asked.{path_pattern, word_pattern, query_by}
use Rattle.listing.specs.Places.{ended, with_last, node_of}
use Rattle.listing.proofs.Taking.{end_tests}
use Rattle.listing.proofs.pairing.ends.Goals as goal
use Rattle.listing.proofs.pairing.ends.Goals.{Else-letters-eq0, Else-not-ends_entries, Else-not-ends_letters, Start}

-- the tests that are left
tests : (s : Start) (m : ℕ) → let a = s.args in let q = query_by a.asked a.path.now a.word.now in let letters = a.place.surface.letters in
    complete (grammar_of a.image.now) q (node_of a.image.now (with_last a.place ended) a.n m)
    ≡ (q.entries.may_end a.n && (ltb 0 letters && q.letters.may_end letters) && finish_of (grammar_of a.image.now) a.place.states)
tests s m =
    let a = s.args in
    end_tests a.image.now (query_by a.asked a.path.now a.word.now) (with_last a.place ended) a.n m (s.requires.standing.1, refl) refl s.requires.standing.0.surface_in

-- those that are passed
entries_end : (c : Else-not-ends_entries) → let a = c.args in (path_pattern a.asked.path a.path.now).may_end a.n ≡ true
entries_end c = sym c.ends_entries.ensures ∙ c.if-not-ends_entries.false

some_letters : (c : Else-letters-eq0) → ltb 0 c.args.place.surface.letters ≡ true
some_letters c = let h : 0 < c.args.place.surface.letters = omega (arith, c.if-letters-eq0.false) in lt-ltb 0 _ h

letters_end : (c : Else-not-ends_letters) → let a = c.args in (word_pattern a.asked.word a.word.now).may_end a.place.surface.letters ≡ true
letters_end c = sym c.ends_letters.ensures ∙ c.if-not-ends_letters.false

pub returns-then-not-ends_entries : goal.returns-then-not-ends_entries
returns-then-not-ends_entries c m = rw (tests (goal.at.returns-then-not-ends_entries c).Start m, sym c.ends_entries.ensures ∙ c.if-not-ends_entries.true) refl

pub returns-then-letters-eq0 : goal.returns-then-letters-eq0
returns-then-letters-eq0 c m =
    let at = goal.at.returns-then-letters-eq0 c in
    let none : ltb 0 c.args.place.surface.letters ≡ false = ap (ltb 0) c.if-letters-eq0.true in
    rw (tests at.Start m, entries_end at.Else-not-ends_entries, none) refl

pub returns-then-not-ends_letters : goal.returns-then-not-ends_letters
returns-then-not-ends_letters c m =
    let at = goal.at.returns-then-not-ends_letters c in
    rw (tests at.Start m, entries_end at.Else-not-ends_entries, some_letters at.Else-letters-eq0, sym c.ends_letters.ensures ∙ c.if-not-ends_letters.true) refl

pub returns : goal.returns
returns c m =
    let at = goal.at.returns c in
    rw (tests at.Start m, entries_end at.Else-not-ends_entries, some_letters at.Else-letters-eq0, letters_end at.Else-not-ends_letters) c.finish_all.ensures
