use mathlib.Core.Bool.{Bool, true}
use mathlib.Core.List.{List}
use mathlib.Core.Path.{◌≡◌}
use Prim.Native.Nat.{ℕ, ◌+◌, ◌%◌}
use Rattle.model.specs.Lists.{below, every}
use Rattle.model.specs.Blocks.{Header, per_block, record_start}
use Rattle.model.specs.Lexicon.{entry, is_entry_of}
use Rattle.image.specs.Header.{header_of}
use Rattle.letters.specs.Marks.{is_marked}
use Rattle.lexicon.proofs.are_entries.Given as goal

-- what is asked of entry e
abbrev pub is_right : List ℕ → List ℕ → Header → ℕ → Bool
is_right image marked h e = is_entry_of (entry image e) h.form (is_marked marked) h.lexicons

-- the entry of that number comes next, at its place, with this many to come in its block
abbrev pub invariant-entries : goal.invariant-entries
invariant-entries l =
    (l.room + l.counter % per_block (header_of l.h) 6 ≡ per_block (header_of l.h) 6)
    × (l.at ≡ record_start (header_of l.h) 6 l.counter)
    × (every (is_right l.image l.marked (header_of l.h)) (below l.counter) ≡ true)
