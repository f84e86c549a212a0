use Prim.Native.Nat.{ℕ}
use mathlib.Core.Bool.{Bool, true}
use mathlib.Core.Path.{◌≡◌}
use mathlib.Core.List.{List}
use lib.Dec.{leb}
use Rattle.model.specs.Lists.{below, every}
use Rattle.model.specs.Lexicon.{entry, way_count}
use Rattle.converter.proofs.entries.one_ways.Given as goal

abbrev pub fewAt : List ℕ → ℕ → Bool
fewAt image e = leb (way_count (entry image e) 2) 1

abbrev pub invariant-loop-e : goal.invariant-loop-e
invariant-loop-e l = every (fewAt l.image) (below l.e) ≡ true
