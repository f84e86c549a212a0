-- Document 02, (h), a rule's line: "operator, space, own pair, space, left context, underscore, right context".
use Rattle.std.specs.Prelude.{ℕ, ◌+◌, ◌/◌, ◌%◌, Bool, true, false, ◌&&◌, cond, List, [], ◌∷◌, ◌++◌, length, drop, leb, eqb}
use Rattle.model.specs.Lists.{same_list}
use Rattle.model.specs.Lists as lists
use Rattle.contexts.specs.Context.{pair, any, star, sequence, either, bracket, whole, canonical, written, depth}
use Rattle.contexts.specs.Meaning.{pair_number}
use Rattle.contexts.specs.Reader.{Read, failed, got, starts_with, read_pair, Written, everywhere, where_it_runs, wrong, read_context}
use Rattle.contexts.specs.Operators.{Operator, only-there, always-there, both, never-there, Rule}

-- => <= <=> /<=
abbrev pub sign : Operator → List ℕ
sign only-there = 61 ∷ 62 ∷ []
sign always-there = 60 ∷ 61 ∷ []
sign both = 60 ∷ 61 ∷ 62 ∷ []
sign never-there = 47 ∷ 60 ∷ 61 ∷ []

-- "a pair as three decimal digits"
abbrev pub three_digits : ℕ → List ℕ
three_digits n = (48 + n / 100) ∷ (48 + n / 10 % 10) ∷ (48 + n % 10) ∷ []

abbrev pub written_context : Written → List ℕ
written_context everywhere = []
written_context (where_it_runs c) = written c
written_context wrong = []

-- the line that a rule is written as
abbrev pub written_rule : Rule → List ℕ
written_rule r = sign r.operator ++ (32 ∷ (three_digits r.own ++ (32 ∷ (written_context r.left ++ (95 ∷ written_context r.right)))))

-- a context that may stand in a line: none, or one of the grammar, "of at most 64 bytes", "nested to depth 8"
abbrev pub may_stand : Written → Bool
may_stand everywhere = true
may_stand (where_it_runs c) = canonical whole c && leb (depth c) 8 && leb (length (written c)) 64
may_stand wrong = false

-- a rule that can be written
abbrev pub writable : Rule → Bool
writable r = leb r.own 999 && may_stand r.left && may_stand r.right

-- How a line is read: up to the first byte b, and after it.
abbrev pub up_to : ℕ → List ℕ → List ℕ
up_to b [] = []
up_to b (x ∷ t) = cond (eqb x b) [] (x ∷ up_to b t)

abbrev pub after : ℕ → List ℕ → List ℕ
after b [] = []
after b (x ∷ t) = cond (eqb x b) t (after b t)

abbrev pub has : ℕ → List ℕ → Bool
has b t = lists.any (λ x. eqb x b) t

-- a rule, or a line that is none
pub data Line : Type 0 where
  rule : Rule → Line
  no_rule : Line

-- an operator, or none
pub data Sign : Type 0 where
  operator : Operator → Sign
  no_operator : Sign

abbrev pub signed : Operator → List ℕ → Sign → Sign
signed o t s = cond (same_list t (sign o)) (operator o) s

abbrev pub read_sign : List ℕ → Sign
read_sign t = signed only-there t (signed always-there t (signed both t (signed never-there t no_operator)))

-- the contexts, with an underscore between them
abbrev pub line_with : Bool → Operator → ℕ → List ℕ → Line
line_with true o own t = rule (record { operator = o; own = own; left = read_context (up_to 95 t); right = read_context (after 95 t) })
line_with false o own t = no_rule

abbrev pub after_own : Bool → Operator → ℕ → List ℕ → Line
after_own true o own t = line_with (has 95 t) o own t
after_own false o own t = no_rule

abbrev pub after_sign : Sign → Read → Line
after_sign no_operator x = no_rule
after_sign (operator o) failed = no_rule
after_sign (operator o) (got (pair a b d) t) = after_own (starts_with 32 t) o (pair_number a b d) (drop 1 t)
after_sign (operator o) (got any t) = no_rule
after_sign (operator o) (got (star c) t) = no_rule
after_sign (operator o) (got (sequence c d) t) = no_rule
after_sign (operator o) (got (either c d) t) = no_rule
after_sign (operator o) (got (bracket c) t) = no_rule

unfoldable pub read_rule : List ℕ → Line
read_rule line = after_sign (read_sign (up_to 32 line)) (read_pair (after 32 line))
