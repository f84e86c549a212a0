-- `read_chunk` meets its contract: what it reads is what `read_byte` makes of each byte.
use Prim.Native.Nat.{◌+◌, ◌≤◌}
use native.Mathlib.Omega.{arith}
use mathlib.Core.Path.{◌≡◌, refl}
use lib.ListN.{length}
use Rattle.answers.proofs.Reading.{Progress, progress_none, progress_more, progress_same, moved}
use Rattle.answers.proofs.input.read_chunk.Goals as goal
use Rattle.answers.proofs.input.read_chunk.Goals.{In_default, After-loop-i}

pub loop-i-init : goal.loop-i-init
loop-i-init c = let a = c.args in progress_none a.run.now.image.now a.chunk.now a.line.now a.out.now a.at a.from.kept a.from.end c.requires.kept_few c.requires.in_bounds.1

-- where there is no room for one more answer
pub returns-then-reached-most : goal.returns-then-reached-most
returns-then-reached-most c =
    let p = c.loop-i.invariant in
    record {
      line = (p.grown, p.kept_few);
      text = (p.text, p.end_in);
      onward = (p.in_order, (omega arith, λ none more. moved _ _ _ _ _ _ _ _ _ _ _ _ p none (omega arith)));
    }

pub read_byte-requires-clause-kept_few : goal.read_byte-requires-clause-kept_few
read_byte-requires-clause-kept_few c = c.loop-i.invariant.kept_few

-- where a line waits
pub returns-in_default : goal.returns-in_default
returns-in_default c =
    let waits = c.in_default.ensures in
    let p = progress_same _ _ _ _ _ _ _ _ _ _ _ _ c.loop-i.invariant waits.0 waits.1.same in
    record {
      line = (p.grown, p.kept_few);
      text = (p.text, p.end_in);
      onward = (p.in_order, (omega arith, λ none more. moved _ _ _ _ _ _ _ _ _ _ _ _ c.loop-i.invariant none waits.1.some));
    }

-- a byte more
pub loop-i-preserved : goal.loop-i-preserved
loop-i-preserved c =
    let p = c.loop-i.invariant in
    let room : c.loop-i.reached.end + 22032 ≤ length c.args.out.now = omega (arith, c.if-reached-most.false, c.requires.in_bounds.0) in
    progress_more _ _ _ _ _ _ _ _ _ _ _ _ p c.loop-i-test.true refl refl room c.read_byte.auto.out c.in-Some.ensures

-- where the chunk ends
whole : (c : After-loop-i)
    → let a = c.args in
    let now = c.loop-i in
    Progress a.run.now.image.now a.chunk.now a.line.now a.out.now a.at a.from.kept a.from.end now.line now.out (length a.chunk.now) now.reached.kept now.reached.end
whole c =
    let end : c.loop-i.i ≡ length c.args.chunk.now = omega (arith, c.requires.at_in_bounds) in
    rw end at c.loop-i.invariant

pub returns-clause-line : goal.returns-clause-line
returns-clause-line c = let p = whole c in (p.grown, p.kept_few)

pub returns-clause-text : goal.returns-clause-text
returns-clause-text c = let p = whole c in (p.text, p.end_in)
