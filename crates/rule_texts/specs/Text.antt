-- Document 02, (h), a text of rules: "0 to 32 rules, one a line (byte 10 after each, or none after the last)"; which texts are of the grammar (19), and
-- which pairs they may name (20).
use Rattle.std.specs.Prelude.{ℕ, ◌<◌, Bool, false, ◌&&◌, ◌||◌, ◌≡◌, ◌⊎◌, length, T, leb, ltb, eqb}
use mathlib.Core.List.{List, [], ◌∷◌, ◌++◌, map, Memᴰ}
use Rattle.model.specs.Lists.{every}
use Rattle.model.specs.Lines.{lines_of}
use Rattle.contexts.specs.Context.{Context, pair, any, star, sequence, either, bracket}
use Rattle.contexts.specs.Meaning.{pair_number}
use Rattle.contexts.specs.Reader.{Written, everywhere, where_it_runs, wrong, is_right}
use Rattle.contexts.specs.Operators.{Rule, obeys}
use Rattle.rule_texts.specs.Line.{Line, rule, no_rule, written_rule, writable, read_rule}

-- lines, byte 10 after each
abbrev pub ended : List (List ℕ) → List ℕ
ended [] = []
ended (l ∷ ls) = l ++ (10 ∷ ended ls)

-- "byte 10 after each, or none after the last"
abbrev pub Ended : List (List ℕ) → List ℕ → Type 0
Ended ls t = (t ≡ ended ls) ⊎ (t ++ (10 ∷ []) ≡ ended ls)

-- a text is that of these rules: "one a line"
abbrev pub TextOf : List Rule → List ℕ → Type 0
TextOf rs t = Ended (map written_rule rs) t

-- a rule is one of those that a text is written for
abbrev pub RuleOf : List ℕ → Rule → Type 0
RuleOf t r = (rs : List Rule) × TextOf rs t × T (every writable rs) × Memᴰ r rs

-- a line that is a rule's, with contexts of the grammar
abbrev pub is_rule : Line → Bool
is_rule (rule r) = is_right r.left && is_right r.right
is_rule no_rule = false

-- 19, "a text that isn't of this grammar, has too many rules, or a context over length or depth"
unfoldable pub is_text : List ℕ → Bool
is_text text = leb (length (lines_of text)) 32 && every (λ l. is_rule (read_rule l)) (lines_of text)

-- the pair numbers of a context, as they stand in it
abbrev pub pairs_in : Context → List ℕ
pairs_in (pair a b d) = pair_number a b d ∷ []
pairs_in any = []
pairs_in (star c) = pairs_in c
pairs_in (sequence c d) = pairs_in c ++ pairs_in d
pairs_in (either c d) = pairs_in c ++ pairs_in d
pairs_in (bracket c) = pairs_in c

abbrev pub pairs_of : Written → List ℕ
pairs_of everywhere = []
pairs_of (where_it_runs c) = pairs_in c
pairs_of wrong = []

-- 20, "a pair number that is neither below P nor 255, or 255 as the rule's own pair"
abbrev pub is_known : ℕ → ℕ → Bool
is_known pairs p = ltb p pairs || eqb p 255

-- in words
module _ (pairs : ℕ) where
  abbrev pub Known : ℕ → Type 0
  Known p = (p < pairs) ⊎ (p ≡ 255)

  abbrev pub KnowsPairs : Rule → Type 0
  KnowsPairs r = (r.own < pairs) × ((p : ℕ) → Memᴰ p (pairs_of r.left ++ pairs_of r.right) → Known p)

abbrev pub knows_pairs : ℕ → Line → Bool
knows_pairs pairs (rule r) = ltb r.own pairs && every (is_known pairs) (pairs_of r.left ++ pairs_of r.right)
knows_pairs pairs no_rule = false

unfoldable pub pairs_known : ℕ → List ℕ → Bool
pairs_known pairs text = every (λ l. knows_pairs pairs (read_rule l)) (lines_of text)

-- whether a pairing obeys the rule of a line
abbrev pub obeys_line : (ℕ → ℕ) → Line → List ℕ → Bool
obeys_line lexical (rule r) pairing = obeys lexical r pairing
obeys_line lexical no_rule pairing = false

unfoldable pub obeys_text : (ℕ → ℕ) → List ℕ → List ℕ → Bool
obeys_text lexical text pairing = every (λ l. obeys_line lexical (read_rule l) pairing) (lines_of text)
