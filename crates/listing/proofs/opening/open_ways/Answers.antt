-- `open_ways` meets its contract: asked nothing of the path, all that the set names may open; asked an entry, that one alone, and only where it is the next of the set.
use native.Mathlib.Omega.{arith}
use mathlib.Core.Path.{sym, ap, ◌∙◌}
use mathlib.Core.List.{List}
use Prim.Native.Nat.{ℕ, ◌<◌}
use Rattle.model.specs.Blocks.{Header, header}
use Rattle.image.specs.Header.{header_of}
use Rattle.rules.specs.Paths.{in_some}
use Rattle.listing.specs.Asked.{path_pattern}
use Rattle.listing.proofs.Ranges.{anything_ways, exactly_past, exactly_none, exactly_one, exactly_before, some_past}
use Rattle.listing.proofs.opening.open_ways.Goals as goal
use Rattle.listing.proofs.opening.open_ways.Goals.{After-number_at-e, Else-path-n}

-- a path is asked for, and it has an entry at this place
module _ (more : Else-path-n) where
  abbrev image : List ℕ
  image = more.args.image.now

  abbrev bits : ℕ
  bits = more.args.bits

  abbrev path : List ℕ
  path = more.args.path.now

  abbrev n : ℕ
  n = more.args.n

-- the entry asked for
module _ (asked : After-number_at-e) where
  abbrev number : ℕ
  number = asked.number_at-e.result

pub returns-then-path-n : goal.returns-then-path-n
unfolding path_pattern
returns-then-path-n c =
    rw c.in-Exactly.is (record { ways = exactly_past c.args.image.now c.args.bits c.requires.known c.args.path.now c.args.n c.if-path-n.true; before = λ e k. absurd (omega arith) })

pub returns-then-h-e : goal.returns-then-h-e
unfolding path_pattern
returns-then-h-e c =
    let past = some_past (image (goal.at.returns-then-h-e c).Else-path-n) (header_of c.args.h) c.requires.accepted (bits (goal.at.returns-then-h-e c).Else-path-n) (number (goal.at.returns-then-h-e c).After-number_at-e) c.if-h-e.true in
    rw c.in-Exactly.is (record { ways = exactly_none (image (goal.at.returns-then-h-e c).Else-path-n) (bits (goal.at.returns-then-h-e c).Else-path-n) c.requires.known (path (goal.at.returns-then-h-e c).Else-path-n) (n (goal.at.returns-then-h-e c).Else-path-n) c.if-path-n.false (number (goal.at.returns-then-h-e c).After-number_at-e) c.number_at-e.ensures.0 past; before = λ e k. absurd (omega arith) })

pub next_of_set-first-requires : goal.next_of_set-first-requires
next_of_set-first-requires c =
    record { accepted = c.requires.accepted; index_value = c.requires.index_value; known = (c.requires.known, omega arith) }

pub returns-then-first-e : goal.returns-then-first-e
unfolding path_pattern
returns-then-first-e c =
    let next = c.next_of_set-first.ensures.next in
    let passed = next.passed (number (goal.at.returns-then-first-e c).After-number_at-e) (omega arith) (omega (arith, next.onward, c.if-first-e.true)) in
    rw c.in-Exactly.is (record { ways = exactly_none (image (goal.at.returns-then-first-e c).Else-path-n) (bits (goal.at.returns-then-first-e c).Else-path-n) c.requires.known (path (goal.at.returns-then-first-e c).Else-path-n) (n (goal.at.returns-then-first-e c).Else-path-n) c.if-path-n.false (number (goal.at.returns-then-first-e c).After-number_at-e) c.number_at-e.ensures.0 passed; before = λ e k. absurd (omega arith) })

pub returns-in-Anything : goal.returns-in-Anything
unfolding path_pattern
returns-in-Anything c =
    rw c.in-Anything.is (record { ways = anything_ways c.args.image.now c.args.bits c.requires.known c.args.n; before = λ e k. absurd (omega arith) })

pub returns-else-first-e : goal.returns-else-first-e
unfolding path_pattern
returns-else-first-e c =
    let e = number (goal.at.returns-else-first-e c).After-number_at-e in
    let next = c.next_of_set-first.ensures.next in
    let few : e < (header (image (goal.at.returns-else-first-e c).Else-path-n)).entries = omega (arith, c.if-h-e.false, ap (λ (g : Header). g.entries) c.requires.accepted.laid.header_is) in
    let is = ap (in_some (image (goal.at.returns-else-first-e c).Else-path-n) (header (image (goal.at.returns-else-first-e c).Else-path-n)).lexicons (bits (goal.at.returns-else-first-e c).Else-path-n)) (sym c.if-first-e.false) ∙ next.passes (omega (arith, few, c.if-first-e.false)) in
    rw c.in-Exactly.is (record { ways = exactly_one (image (goal.at.returns-else-first-e c).Else-path-n) (bits (goal.at.returns-else-first-e c).Else-path-n) c.requires.known (path (goal.at.returns-else-first-e c).Else-path-n) (n (goal.at.returns-else-first-e c).Else-path-n) c.if-path-n.false e c.number_at-e.ensures.0 few is; before = exactly_before (image (goal.at.returns-else-first-e c).Else-path-n) (bits (goal.at.returns-else-first-e c).Else-path-n) c.requires.known (path (goal.at.returns-else-first-e c).Else-path-n) (n (goal.at.returns-else-first-e c).Else-path-n) c.if-path-n.false e c.number_at-e.ensures.0 })
