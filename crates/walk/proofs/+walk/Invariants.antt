-- With m steps left, entries and pairs of the trail and the ending, the measure of `open` is 4m + 1, that of `open_each` and of `open_listed` 4m, that of `pair` 4m + 3
-- and that of `pair_each` 4m + 2. Each loop has offered what the entries, or the candidates, before its place find, and the table remembers no node that finds something.
use Prim.Native.Nat.{ℕ, ◌<◌, ◌≤◌, ◌+◌, ◌*◌, ◌-◌}
use mathlib.Core.Bool.{Bool, true}
use mathlib.Core.Path.{◌≡◌}
use mathlib.Core.List.{List}
use lib.ListN.{length, get_or}
use Rattle.model.specs.Query.{Query}
use Rattle.rows.specs.Fill.{put}
use Rattle.dead.specs.Dead.{Remembered}
use Rattle.listing.specs.Places.{with_last}
use Rattle.listing.specs.Opening.{may_enter, WaysOf}
use Rattle.listing.specs.Search.{entry_one}
use Rattle.walk.specs.Basis.{query_of}
use Rattle.walk.proofs.Turns.{Turns}
use Rattle.ahead.specs.Here.{steps_after}
use Rattle.ahead.proofs.Heads.{candidate_one}
use Rattle.ahead.proofs.FirstLetters.{Known}
use Rattle.walk.proofs.+walk.Given as goal

-- the table keeps its length, and what it remembers
abbrev pub Tabled : List ℕ → Query → List ℕ → List ℕ → Type 0
Tabled image q before table = (length table ≡ length before) × Remembered image q table

abbrev pub decreases-open : goal.decreases-open
decreases-open l = 4 * steps_after l.place l.trail + 1

abbrev pub decreases-open_each : goal.decreases-open_each
decreases-open_each l = 4 * steps_after l.place l.trail

abbrev pub decreases-open_listed : goal.decreases-open_listed
decreases-open_listed l = 4 * steps_after l.place l.trail

abbrev pub decreases-pair : goal.decreases-pair
decreases-pair l = 4 * steps_after l.place l.trail + 3

abbrev pub decreases-pair_each : goal.decreases-pair_each
decreases-pair_each l = 4 * steps_after l.place l.trail + 2

-- entry e is the next that may open, and those before it have offered what they find
abbrev pub invariant-open_each-loop-e : goal.invariant-open_each-loop-e
invariant-open_each-loop-e l =
    let q = query_of l.basis in
    let may : ℕ → Bool = may_enter l.basis.image.now q.entries l.place.last l.trail.entries in
    Tabled l.basis.image.now q l.initial.table l.table
    × ((WaysOf l.basis.image.now may l.ways × ((l.ways.low ≤ l.e) × ((l.e ≤ l.basis.h.entries) × (l.e < l.basis.h.entries → may l.e ≡ true))))
    × (((length l.out ≡ length l.initial.out) × (l.n ≤ l.capacity)) ×
    (Turns (put l.capacity) (entry_one l.basis.image.now q l.place l.trail) (l.initial.out, l.found) (l.out, l.n) l.e × Known l.basis.image.now q l.place l.trail l.known)))

abbrev pub decreases-open_each-loop-e : goal.decreases-open_each-loop-e
decreases-open_each-loop-e l = l.basis.h.entries - l.e

-- those of the list before the index have offered what they find
abbrev pub invariant-open_listed-loop-e : goal.invariant-open_listed-loop-e
invariant-open_listed-loop-e l =
    let q = query_of l.basis in
    Tabled l.basis.image.now q l.initial.table l.table
    × (((length l.out ≡ length l.initial.out) × (l.n ≤ l.capacity))
    × Turns (put l.capacity) (λ i. entry_one l.basis.image.now q l.place l.trail (get_or l.list i 0)) (l.initial.out, l.found) (l.out, l.n) l.e-index)

-- the first k candidates have offered what they find
abbrev pub invariant-pair_each-loop-k : goal.invariant-pair_each-loop-k
invariant-pair_each-loop-k l =
    let q = query_of l.basis in
    Tabled l.basis.image.now q l.initial.table l.table
    × (((length l.out ≡ length l.initial.out) × (l.n ≤ l.capacity))
    × Turns (put l.capacity) (candidate_one l.basis.image.now q (with_last l.place l.last) l.trail l.letter.0) (l.initial.out, l.initial.n) (l.out, l.n) l.k)
