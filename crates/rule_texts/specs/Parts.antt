-- A text cut at a byte or after its first line, and a line divided into its parts, as the code has them.
use Rattle.std.specs.Prelude.{ℕ, ◌<◌, true, ◌≡◌, List, ◌∷◌, ◌++◌, length, drop, Option, Some, None}
use Rattle.model.specs.Lines.{lines_of}
use Rattle.contexts.specs.Reader.{read_context}
use Rattle.contexts.specs.Operators as operators
use Rattle.rule_texts.specs.Line.{up_to, after, has, Line, rule, no_rule, Sign, operator, no_operator}
use Rattle.rule_texts.specs.declared.line.Operator.{Operator}
use Rattle.rule_texts.specs.declared.line.Operator.TheVariants.{OnlyThere, AlwaysThere, Both, NeverThere}
use Rattle.rule_texts.specs.declared.line.Parts.{Parts}

-- u stands before the first byte b of a text, and v after it
abbrev pub IsCut : ℕ → List ℕ → List ℕ → List ℕ → Type 0
IsCut b t u v = (has b t ≡ true) × (u ≡ up_to b t) × (v ≡ after b t)

-- u is the first line of a text, the others are those of v, and v is shorter
abbrev pub IsFirstLine : List ℕ → List ℕ → List ℕ → Type 0
IsFirstLine t u v = (lines_of t ≡ u ∷ lines_of v) × (length v < length t)

abbrev pub operator_of : Operator → operators.Operator
operator_of OnlyThere = operators.only-there
operator_of AlwaysThere = operators.always-there
operator_of Both = operators.both
operator_of NeverThere = operators.never-there

-- the operator that was read, or none
abbrev pub sign_of : Option Operator → Sign
sign_of None = no_operator
sign_of (Some o) = operator (operator_of o)

-- the rule that a divided line is
abbrev pub divided_rule : Parts → operators.Rule
divided_rule p = record { operator = operator_of p.operator; own = p.own; left = read_context p.left.now; right = read_context p.right.now }

abbrev pub line_of : Option Parts → Line
line_of None = no_rule
line_of (Some p) = rule (divided_rule p)

-- its two contexts are all that stands from the left one on, with an underscore between them
abbrev pub PartsOf : List ℕ → Parts → Type 0
PartsOf line p = (from : ℕ) × ((from < length line) × (drop from line ≡ p.left.now ++ (95 ∷ p.right.now)))
