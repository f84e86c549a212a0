-- `levels_right` meets its contract: the tests of the definition in its order, and the first that fails decides.
use borrow.Author.Rules.{rules}
use native.Mathlib.Omega.{arith}
use mathlib.Core.Bool.{true}
use mathlib.Core.Path.{◌≡◌, sym, ◌∙◌}
use mathlib.Core.List.{map}
use Prim.Native.Nat.{ℕ, ◌+◌, ◌-◌, ◌<◌, ◌≤◌}
use lib.ListN.{length, get_or}
use Rattle.model.specs.Lists.{same_list}
use Rattle.model.specs.GrammarOf.{grammar_of}
use Rattle.model.specs.Readings.{nulls, few_nulls, spelled}
use Rattle.letters.proofs.Laws.{laid_pairs}
use Rattle.rules.specs.Paths.{forms_of}
use Rattle.judge.proofs.PairingLaws.{listed_at}
use Rattle.judge.proofs.Judging.{nulls_are, nulls_many, nulls_few, word_empty, word_long, word_right, fails_forms, fails_lexical, fails_word, surface_decides}
use Rattle.judge.proofs.reading.levels_right.Goals as goal
use Rattle.judge.proofs.reading.levels_right.Goals.{then-letters-lt1-via-then-letters-lt1, then-letters-lt1-via-else-letters-lt1+then-letters-gt32}
use Rattle.judge.proofs.reading.levels_right.Goals.{After-count_nulls-lexical_nulls, After-count_nulls-surface_nulls, Else-not-spells_forms, Start}

-- each pair of the pairing is one of the image
there : (s : Start) (i : ℕ) → i < length s.args.pairing.now → get_or s.args.pairing.now i 0 < s.args.h.pairs
there s i h = omega (arith, laid_pairs s.requires.accepted.laid, listed_at s.args.image.now s.args.pairing.now i s.requires.entered.1 h)

-- the nulls that are counted are those of the level
lexical_nulls : (c : After-count_nulls-lexical_nulls) → c.count_nulls-lexical_nulls.result ≡ nulls (map (grammar_of c.args.image.now).lexical c.args.pairing.now)
unfolding grammar_of
lexical_nulls c = c.count_nulls-lexical_nulls.ensures.count (grammar_of c.args.image.now).lexical (λ i b h e. search rules)

surface_nulls : (c : After-count_nulls-surface_nulls) → c.count_nulls-surface_nulls.result ≡ nulls (map (grammar_of c.args.image.now).surface c.args.pairing.now)
unfolding grammar_of
surface_nulls c = c.count_nulls-surface_nulls.ensures.count (grammar_of c.args.image.now).surface (λ i b h e. search rules)

-- what each test that was passed says
forms : (c : Else-not-spells_forms) → same_list (spelled (grammar_of c.args.image.now).lexical c.args.pairing.now) (forms_of c.args.image.now c.args.path.now) ≡ true
forms c = sym c.spells_forms.ensures ∙ c.if-not-spells_forms.false

lexical : (c : After-count_nulls-lexical_nulls) → c.count_nulls-lexical_nulls.result ≤ 8 → few_nulls (grammar_of c.args.image.now).lexical c.args.pairing.now ≡ true
lexical c few = let a = c.args in nulls_few (grammar_of a.image.now).lexical a.pairing.now c.count_nulls-lexical_nulls.result (lexical_nulls c) few

-- the letters are the pairs without a surface null
abbrev letters : After-count_nulls-surface_nulls → ℕ
letters c = length c.args.pairing.now - c.count_nulls-surface_nulls.result

rest : (c : After-count_nulls-surface_nulls) → letters c + c.count_nulls-surface_nulls.result ≡ length c.args.pairing.now
rest c = omega (arith, c.count_nulls-surface_nulls.ensures.most)

pub returns-then-not-spells_forms : goal.returns-then-not-spells_forms
returns-then-not-spells_forms c = let a = c.args in sym (fails_forms a.image.now a.path.now a.pairing.now (sym c.spells_forms.ensures ∙ c.if-not-spells_forms.true))

pub count_nulls-lexical_nulls-requires : goal.count_nulls-lexical_nulls-requires
count_nulls-lexical_nulls-requires c =
    let laid = c.requires.accepted.laid in
    λ i h. let inside = there (goal.at.count_nulls-lexical_nulls-requires c).Start i h in search rules

pub returns-then-lexical_nulls-gt8 : goal.returns-then-lexical_nulls-gt8
returns-then-lexical_nulls-gt8 c =
    let a = c.args in
    let here = goal.at.returns-then-lexical_nulls-gt8 c in
    sym (fails_lexical a.image.now a.path.now a.pairing.now (forms here.Else-not-spells_forms)
    (nulls_many (grammar_of a.image.now).lexical a.pairing.now c.count_nulls-lexical_nulls.result (lexical_nulls here.After-count_nulls-lexical_nulls) c.if-lexical_nulls-gt8.true))

pub count_nulls-surface_nulls-requires : goal.count_nulls-surface_nulls-requires
count_nulls-surface_nulls-requires c =
    let laid = c.requires.accepted.laid in
    λ i h. let inside = there (goal.at.count_nulls-surface_nulls-requires c).Start i h in search rules

pub returns-then-letters-lt1 : goal.returns-then-letters-lt1
returns-then-letters-lt1 c =
    let a = c.args in
    let here = goal.at.returns-then-letters-lt1 c in
    let n = here.After-count_nulls-surface_nulls in
    let surface = (grammar_of a.image.now).surface in
    let nulls = n.count_nulls-surface_nulls.result in
    let fails = fails_word a.image.now a.path.now a.pairing.now (forms here.Else-not-spells_forms) (lexical here.After-count_nulls-lexical_nulls c.if-lexical_nulls-gt8.false) in
    elim c.then-letters-lt1.branch [
      | then-letters-lt1-via-then-letters-lt1 w ↦ sym (fails (word_empty surface a.pairing.now nulls (surface_nulls n) (letters n) (rest n) w.if-letters-lt1.true))
      | then-letters-lt1-via-else-letters-lt1+then-letters-gt32 w ↦ sym (fails (word_long surface a.pairing.now nulls (surface_nulls n) (letters n) (rest n) w.if-letters-gt32.true))
    ]

pub returns : goal.returns
returns c =
    let a = c.args in
    let here = goal.at.returns c in
    let n = here.After-count_nulls-surface_nulls in
    let surface = (grammar_of a.image.now).surface in
    let word = word_right surface a.pairing.now n.count_nulls-surface_nulls.result (surface_nulls n) (letters n) (rest n) c.if-letters-lt1.false c.if-letters-gt32.false in
    nulls_are surface a.pairing.now n.count_nulls-surface_nulls.result (surface_nulls n)
    ∙ sym (surface_decides a.image.now a.path.now a.pairing.now (forms here.Else-not-spells_forms) (lexical here.After-count_nulls-lexical_nulls c.if-lexical_nulls-gt8.false) word)
