-- The kinds of records, and the places that the tables of the code have for them.
use Rattle.std.specs.Prelude.{ℕ, ◌<◌, ◌≤◌, ◌&&◌, cond, eqb}
use Rattle.image.specs.declared.kinds.Kind.{Kind}
use Rattle.image.specs.declared.kinds.Kind.TheVariants.{Header, Letters, Pairs, Tables, Lexicons, Entries, Sets}

-- document 01, "Blocks", and document 02, (c): the kind that a block bears
abbrev pub kind_number : Kind → ℕ
kind_number Header = 1
kind_number Letters = 2
kind_number Pairs = 3
kind_number Tables = 4
kind_number Lexicons = 5
kind_number Entries = 6
kind_number Sets = 7

abbrev pub IsKind : ℕ → Type 0
IsKind kind = (1 ≤ kind) × (kind < 8)

-- the place of a kind in the tables of the code, by the image's form: the entries of form 2 have one of their own
abbrev pub place_of : ℕ → ℕ → ℕ
place_of form kind = cond (eqb form 2 && eqb kind 6) 8 kind
