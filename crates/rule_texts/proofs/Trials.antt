-- Texts of rules taken and refused, their pairs known or not, and pairings judged by them, by computation.
use Prim.Native.Nat.{ℕ, zero, suc}
use Prim.Native.Char.{code}
use Prim.Native.String.{String, [] as end, ◌∷◌ as ◌then◌}
use mathlib.Core.Bool.{Bool, true, false, cond}
use mathlib.Core.Path.{◌≡◌, refl}
use mathlib.Core.List.{List, [], ◌∷◌, ◌++◌, map}
use lib.ListN.{replicate}
use lib.Dec.{leb}
use Rattle.model.specs.Lists.{every, any}
use Rattle.model.specs.Lines.{lines_from, lines_of}
use Rattle.contexts.specs.Context.{pair, star}
use Rattle.contexts.specs.Reader.{everywhere, where_it_runs, read_context}
use Rattle.contexts.specs.Operators.{both, never-there, obeys}
use Rattle.rule_texts.specs.Line.{rule, read_rule}
use Rattle.rule_texts.specs.Text.{is_text, pairs_known, obeys_text}

-- a text as its bytes
unfoldable pub bytes : String → List ℕ
bytes end = []
bytes (c then s) = code c ∷ bytes s

text : String → Bool
text s = is_text (bytes s)

-- no rule, one with its line end and without, two
line_ends_lem : every text ("" ∷ "=> 000 _" ∷ "=> 000 _\n" ∷ "=> 000 _\n<= 001 002_" ∷ "=> 000 _\n<= 001 002_\n" ∷ []) ≡ true
unfolding text bytes is_text lines_of lines_from read_rule read_context
line_ends_lem = refl

-- a line that is no rule: a lone line end, one too many at the end, at the front, between
empty_lines : any text ("\n" ∷ "=> 000 _\n\n" ∷ "\n=> 000 _" ∷ "=> 000 _\n\n<= 001 002_\n" ∷ []) ≡ false
unfolding text bytes is_text lines_of lines_from read_rule read_context
empty_lines = refl

operators : every text ("=> 000 _" ∷ "<= 000 _" ∷ "<=> 000 _" ∷ "/<= 000 _" ∷ []) ≡ true
unfolding text bytes is_text lines_of lines_from read_rule read_context
operators = refl

no_operators : any text ("= 000 _" ∷ "=< 000 _" ∷ "/=> 000 _" ∷ "/<=> 000 _" ∷ "< 000 _" ∷ "<=>> 000 _" ∷ " 000 _" ∷ "000 _" ∷ []) ≡ false
unfolding text bytes is_text lines_of lines_from read_rule read_context
no_operators = refl

-- a space missing, doubled, before or after
spaces : any text ("=>000 _" ∷ "=>  000 _" ∷ "=> 000_" ∷ "=> 000  _" ∷ " => 000 _" ∷ "=> 000 _ " ∷ "=> 000 _ 002" ∷ "=> 000 002 _" ∷ []) ≡ false
unfolding text bytes is_text lines_of lines_from read_rule read_context
spaces = refl

-- own pairs that are not three digits
own_pairs : any text ("=> 00 _" ∷ "=> 0000 _" ∷ "=>  _" ∷ "=> . _" ∷ "=> (000) _" ∷ "=> 0x0 _" ∷ "=> 000* _" ∷ []) ≡ false
unfolding text bytes is_text lines_of lines_from read_rule read_context
own_pairs = refl

-- no underscore, two, one in brackets
underscores : any text ("=> 000 " ∷ "=> 000 002" ∷ "=> 000 __" ∷ "=> 000 001_002_" ∷ "=> 000 (001_)" ∷ []) ≡ false
unfolding text bytes is_text lines_of lines_from read_rule read_context
underscores = refl

-- contexts on one side, on both
contexts : every text ("=> 000 001_" ∷ "=> 000 _001" ∷ "=> 000 001*|(002.)**_255" ∷ "=> 000 255.*_(001|002)*003" ∷ []) ≡ true
unfolding text bytes is_text lines_of lines_from read_rule read_context
contexts = refl

-- contexts that are not of the grammar, on the left, on the right
no_contexts : any text ("=> 000 *_" ∷ "=> 000 _*" ∷ "=> 000 ()_" ∷ "=> 000 _()" ∷ "=> 000 001|_" ∷ "=> 000 _|001" ∷ "=> 000 01_" ∷ "=> 000 _01" ∷ "=> 000 (001_001)" ∷ []) ≡ false
unfolding text bytes is_text lines_of lines_from read_rule read_context
no_contexts = refl

-- brackets to depth 8, and 9
eight_deep : every text ("=> 000 ((((((((.))))))))_((((((((.))))))))" ∷ []) ≡ true
unfolding text bytes is_text lines_of lines_from read_rule read_context
eight_deep = refl

nine_deep : any text ("=> 000 (((((((((.)))))))))_" ∷ "=> 000 _(((((((((.)))))))))" ∷ []) ≡ false
unfolding text bytes is_text lines_of lines_from read_rule read_context
nine_deep = refl

-- one line of many
one_bad_line : any text ("=> 000 _\n=> 000 \n=> 000 _\n" ∷ []) ≡ false
unfolding text bytes is_text lines_of lines_from read_rule read_context
one_bad_line = refl

-- 32 rules, and 33
repeated : ℕ → List ℕ → List ℕ
repeated zero l = []
repeated (suc n) l = l ++ repeated n l

rules_32 : is_text (repeated 32 (bytes "=> 000 _\n")) ≡ true
unfolding repeated bytes is_text lines_of lines_from read_rule read_context
rules_32 = refl

rules_33 : is_text (repeated 33 (bytes "=> 000 _\n")) ≡ false
unfolding repeated bytes is_text lines_of lines_from read_rule read_context
rules_33 = refl

-- the last of 33 without its line end
rules_33_open : is_text (repeated 32 (bytes "=> 000 _\n") ++ bytes "=> 000 _") ≡ false
unfolding repeated bytes is_text lines_of lines_from read_rule read_context
rules_33_open = refl

-- so many full stops on the left and on the right
stops : ℕ → ℕ → List ℕ
stops m n = bytes "=> 000 " ++ (replicate m 46 ++ (95 ∷ replicate n 46))

bytes_64 : is_text (stops 64 64) ≡ true
unfolding stops bytes is_text lines_of lines_from read_rule read_context
bytes_64 = refl

bytes_65_left : is_text (stops 65 0) ≡ false
unfolding stops bytes is_text lines_of lines_from read_rule read_context
bytes_65_left = refl

bytes_65_right : is_text (stops 0 65) ≡ false
unfolding stops bytes is_text lines_of lines_from read_rule read_context
bytes_65_right = refl

-- a line and its rule
reads : read_rule (bytes "<=> 255 012*_034") ≡ rule (record { operator = both; own = 255; left = where_it_runs (star (pair 0 1 2)); right = where_it_runs (pair 0 3 4) })
unfolding bytes read_rule read_context
reads = refl

reads_empty : read_rule (bytes "/<= 999 _") ≡ rule (record { operator = never-there; own = 999; left = everywhere; right = everywhere })
unfolding bytes read_rule read_context
reads_empty = refl

-- of 4 pairs: the last, and the boundary in a context; of 250, the most that a grammar has
known : every (λ s. pairs_known 4 (bytes s)) ("" ∷ "=> 003 _" ∷ "=> 000 003_" ∷ "=> 000 _003" ∷ "=> 000 255_.*255" ∷ "=> 003 _\n=> 002 (255|003)*_\n" ∷ []) ≡ true
unfolding bytes pairs_known lines_of lines_from read_rule read_context
known = refl

known_most : every (λ s. pairs_known 250 (bytes s)) ("=> 249 _" ∷ "=> 000 249_255" ∷ []) ≡ true
unfolding bytes pairs_known lines_of lines_from read_rule read_context
known_most = refl

-- texts of the grammar that name another pair, or the boundary as a rule's own
strange : List String
strange = "=> 004 _" ∷ "=> 255 _" ∷ "=> 999 _" ∷ "=> 000 004_" ∷ "=> 000 _004" ∷ "=> 000 254_" ∷ "=> 000 _256" ∷ "=> 000 _(001|.999*)" ∷ "=> 003 _\n=> 004 _\n" ∷ []

strange_most : List String
strange_most = "=> 250 _" ∷ "=> 255 _" ∷ "=> 000 250_" ∷ "=> 000 _254" ∷ "=> 000 _256" ∷ []

strange_texts : every text (strange ++ strange_most) ≡ true
unfolding strange strange_most text bytes is_text lines_of lines_from read_rule read_context
strange_texts = refl

unknown : any (λ s. pairs_known 4 (bytes s)) strange ≡ false
unfolding strange bytes pairs_known lines_of lines_from read_rule read_context
unknown = refl

unknown_most : any (λ s. pairs_known 250 (bytes s)) strange_most ≡ false
unfolding strange_most bytes pairs_known lines_of lines_from read_rule read_context
unknown_most = refl

-- Document 01: "Pairs t:c, t:t, i:i, s:s", and t:c before i
lexical : ℕ → ℕ
lexical p = cond (leb p 1) 0 p

judged : String → List ℕ → Bool
judged s ps = obeys_text lexical (bytes s) ps

-- "t:c i:i passes", "t:t i:i fails", "t:c alone fails", "t:t alone passes"; and under each operator alone
four : String → List Bool
four s = map (judged s) ((0 ∷ 2 ∷ []) ∷ (1 ∷ 2 ∷ []) ∷ (0 ∷ []) ∷ (1 ∷ []) ∷ [])

four_both : four "<=> 000 _002" ≡ true ∷ false ∷ false ∷ true ∷ []
unfolding four judged lexical bytes obeys_text lines_of lines_from read_rule read_context obeys
four_both = refl

four_only : four "=> 000 _002" ≡ true ∷ true ∷ false ∷ true ∷ []
unfolding four judged lexical bytes obeys_text lines_of lines_from read_rule read_context obeys
four_only = refl

four_always : four "<= 000 _002" ≡ true ∷ false ∷ true ∷ true ∷ []
unfolding four judged lexical bytes obeys_text lines_of lines_from read_rule read_context obeys
four_always = refl

four_never : four "/<= 000 _002" ≡ false ∷ true ∷ true ∷ true ∷ []
unfolding four judged lexical bytes obeys_text lines_of lines_from read_rule read_context obeys
four_never = refl

-- a text of no rule holds; one rule of two that isn't kept is enough; the boundary counts at both ends
more_judged : (judged "" (0 ∷ 3 ∷ []) ∷ judged "<= 000 _002\n/<= 003 _255\n" (0 ∷ 2 ∷ 3 ∷ []) ∷ judged "/<= 003 _255\n<= 000 _002\n" (1 ∷ 2 ∷ []) ∷ judged "/<= 003 _255\n<= 000 _002" (0 ∷ 2 ∷ 3 ∷ 2 ∷ []) ∷ judged "=> 003 255_" (3 ∷ 2 ∷ []) ∷ judged "=> 003 255_" (2 ∷ 3 ∷ []) ∷ judged "=> 003 _.." (3 ∷ []) ∷ judged "=> 003 _.." (3 ∷ 2 ∷ []) ∷ []) ≡ true ∷ false ∷ false ∷ true ∷ true ∷ false ∷ false ∷ true ∷ []
unfolding judged lexical bytes obeys_text lines_of lines_from read_rule read_context obeys
more_judged = refl
