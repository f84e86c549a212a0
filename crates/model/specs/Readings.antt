-- Document 01, "Readings and step order": readings of a grammar, their step lists, and the order of step lists.
use Rattle.std.specs.Prelude.{ℕ, zero, suc, ◌<◌, Bool, true, false, ◌&&◌, ◌≡◌, ◌⊎◌, length, leb, ltb}
use mathlib.Core.List.{List, [], ◌∷◌, ◌++◌, map, Memᴰ}
use Rattle.model.specs.Lists.{below, every, joined, same_list, within}
use Rattle.model.specs.RuleTables.{fed, accepts}
use Rattle.model.specs.Lexicon.{linked, path_length}
use Rattle.model.specs.Grammar.{Grammar}

pub record Reading : Type 0 where
  pub path : List ℕ
  pub pairing : List ℕ

-- letter 0 is the null
abbrev pub nulls : List ℕ → ℕ
nulls [] = 0
nulls (zero ∷ xs) = suc (nulls xs)
nulls (suc x ∷ xs) = nulls xs

abbrev pub without_nulls : List ℕ → List ℕ
without_nulls [] = []
without_nulls (zero ∷ xs) = without_nulls xs
without_nulls (suc x ∷ xs) = suc x ∷ without_nulls xs

-- the letters that a pairing spells on one level, given by the side of each pair
abbrev pub spelled : (ℕ → ℕ) → List ℕ → List ℕ
spelled side ps = without_nulls (map side ps)

-- "at most 8 pairs have a lexical null, at most 8 a surface null"
abbrev pub few_nulls : (ℕ → ℕ) → List ℕ → Bool
few_nulls side ps = leb (nulls (map side ps)) 8

-- "a word (1-32 surface letters)"
abbrev pub word_length : List ℕ → Bool
word_length w = within 1 32 (length w)

-- what a reading asks of a line, surface or spoken, given by the side of each pair. Document 02, (l): "Each level has at most 8 nulls, and the surface and spoken
-- words 1-32 letters each."
abbrev pub is_line : (ℕ → ℕ) → List ℕ → Bool
is_line side ps = word_length (spelled side ps) && few_nulls side ps

-- "a pairing of 1-40 pairs"
abbrev pub pairing_length : List ℕ → Bool
pairing_length ps = within 1 40 (length ps)

-- letters of an entry still to be paired, n of them, after a pair with this lexical side
abbrev pub after_letter : ℕ → ℕ → ℕ
after_letter zero n = n
after_letter (suc a) zero = zero
after_letter (suc a) (suc n) = n

module _ (g : Grammar) where
  unfoldable pub passes : List ℕ → Bool
  passes ps = every (λ r. accepts (g.next r) (g.final r) 1 (fed g.pairs ps)) (below g.rules)

  abbrev pub is_linked : List ℕ → Bool
  is_linked es = linked g.entries g.follows g.ends g.begins false es

  unfoldable pub is_path : List ℕ → Bool
  is_path es = path_length es && is_linked es

  -- the word that a reading spells
  abbrev pub word : Reading → List ℕ
  word r = spelled g.surface r.pairing

  -- and the word that it is spoken as
  abbrev pub speech : Reading → List ℕ
  speech r = spelled g.spoken r.pairing

  -- the path, and the pairing with it: "a pairing of 1-40 pairs: lexical sides without nulls are the joined forms, .. at most 8 pairs have a lexical null"
  abbrev pub spells_path : Reading → Bool
  spells_path r =
      is_path r.path
      && pairing_length r.pairing
      && every (λ p. ltb p g.pairs) r.pairing
      && same_list (spelled g.lexical r.pairing) (joined (map g.form r.path))
      && few_nulls g.lexical r.pairing

  -- "A reading .. is a path and a pairing of 1-40 pairs: lexical sides without nulls are the joined forms, surface sides without nulls are the word,
  -- at most 8 pairs have a lexical null, at most 8 a surface null, and the pairing passes." Here of the word that it spells; and, by document 02, (l), the
  -- same of the spoken line. In a grammar of two levels that is the surface again, and nothing more is asked (`two_level` in proofs/Spoken.antt).
  unfoldable pub is_reading : Reading → Bool
  is_reading r = spells_path r && is_line g.surface r.pairing && is_line g.spoken r.pairing && passes r.pairing

  -- "A reading of a word"
  unfoldable pub is_reading_of : List ℕ → Reading → Bool
  is_reading_of w r = is_reading r && same_list (word r) w

  -- the pairs up to the n-th lexical letter, and the pairs after it
  unfoldable pub up_to : ℕ → List ℕ → List ℕ
  up_to n [] = []
  up_to zero (p ∷ ps) = []
  up_to (suc n) (p ∷ ps) = p ∷ up_to (after_letter (g.lexical p) (suc n)) ps

  unfoldable pub beyond : ℕ → List ℕ → List ℕ
  beyond n [] = []
  beyond zero (p ∷ ps) = p ∷ ps
  beyond (suc n) (p ∷ ps) = beyond (after_letter (g.lexical p) (suc n)) ps

  -- "The step list of a reading begins with its first entry. Pairs follow; the next entry opens as soon as the last letter of the one before is paired,
  -- ahead of any lexical-null pair, and an empty form opens the next directly."
  unfoldable pub step_list : List ℕ → List ℕ → List ℕ
  step_list [] ps = ps
  step_list (e ∷ es) ps = let n = length (g.form e) in e ∷ (up_to n ps ++ step_list es (beyond n ps))

  abbrev pub steps : Reading → List ℕ
  steps r = step_list r.path r.pairing

  -- The step list with its ending as a step, which the walk makes: the ending stands where the next entry would open, ahead of any lexical-null pair, and
  -- counts below every entry. It is 0, and entries count from 1; an entry and a pair are never compared.
  unfoldable pub ending_list : List ℕ → List ℕ → List ℕ
  ending_list [] ps = 0 ∷ ps
  ending_list (e ∷ es) ps = let n = length (g.form e) in suc e ∷ (up_to n ps ++ ending_list es (beyond n ps))

  abbrev pub ending_steps : Reading → List ℕ
  ending_steps r = ending_list r.path r.pairing

-- document 01's step lists, or those with endings
unfoldable pub steps_by : Bool → Grammar → Reading → List ℕ
steps_by true g = steps g
steps_by false g = ending_steps g

-- "Readings are ordered by the first differing number; a beginning of another comes first."
abbrev pub Before : List ℕ → List ℕ → Type 0
Before l [] = ⊥
Before [] (y ∷ ys) = Unit {0}
Before (x ∷ xs) (y ∷ ys) = (x < y) ⊎ ((x ≡ y) × Before xs ys)

-- each before every later one
abbrev pub Ascending : List (List ℕ) → Type 0
Ascending [] = Unit {0}
Ascending (l ∷ ls) = ((m : List ℕ) → Memᴰ m ls → Before l m) × Ascending ls
