-- Whether an entry can start where it opens, by the first letter of its form.
use Rattle.std.specs.Prelude.{ℕ, suc, Bool, true, false, ◌||◌, cond, List}
use Rattle.model.specs.Lists.{any, is_zero}
use Rattle.model.specs.GrammarOf.{grammar_of}
use Rattle.model.specs.Query.{Query}
use Rattle.model.specs.Tree.{Node, may_at, go_at}
use Rattle.image.specs.Index.{candidates}

-- some candidate pair of letter a may be taken at a node
unfoldable pub starts_at : List ℕ → Query → Node → ℕ → Bool
starts_at image q n a = any (may_at (grammar_of image) q false n) (candidates image a)

-- what is seen where entry e, which begins with letter a, opens: 1 where no pair may be taken, 2 where one may, or the form is empty
unfoldable pub seen_at : List ℕ → Query → Node → ℕ → ℕ → ℕ
seen_at image q n e a = cond (is_zero a || starts_at image q (go_at (grammar_of image) q true n (suc e)) a) 2 1
