-- `take_chunk` meets its contract: what came in waits at the front of the chunk.
use Rattle.std.proofs.Common.{◌≡◌, ◌-◌, ◌≤◌, [], ◌++◌, length}
use native.Mathlib.Omega.{arith}
use mathlib.Core.Path.{refl, sym, ap, ◌∙◌, subst}
use Rattle.std.specs.Prelude.{Some}
use Rattle.moving.specs.Told.{TakenIn}
use lib.ListN.{take, drop}
use lib.Seq.{length-take-le}
use Rattle.steps.proofs.Sofar.{went_on}
use Rattle.steps.proofs.take_chunk.Goals as goal

pub returns-in-Nothing : goal.returns-in-Nothing
returns-in-Nothing g c =
    let stand = c.args.s in
    let within = c.requires.within.0 in
    let line = c.args.line.now in
    let none : stand.n - stand.at ≡ 0 = omega (arith, c.requires.within.1) in
    went_on c.args.run.now.image.now c.args.chunk.now c.take_in.new.chunk line line stand stand [] [] []
    (rw none refl) (λ l h. h) (λ l h. refl) (omega arith) (omega arith) c.args.out.now refl refl (omega arith) (omega arith) within.in_order within.inside within.few

pub returns-in-Bytes : goal.returns-in-Bytes
returns-in-Bytes g c =
    let stand = c.args.s in
    let within = c.requires.within.0 in
    let n = c.in-Bytes.n in
    let chunk = c.take_in.new.chunk in
    let line = c.args.line.now in
    let told = subst (λ came. TakenIn (length c.args.chunk.now) stand.taken (Some came)) c.in-Bytes.is c.in_ok-came.ensures in
    let none : stand.n - stand.at ≡ 0 = omega (arith, c.requires.within.1) in
    let all : n - 0 ≡ n = omega arith in
    let few : n ≤ length chunk = omega (arith, told.1.0, c.take_in.auto.chunk) in
    let long = length-take-le n chunk few in
    went_on c.args.run.now.image.now c.args.chunk.now chunk line line stand _ [] (take n chunk) []
    (ap (λ k. take k (drop stand.at c.args.chunk.now) ++ take n chunk) none ∙ sym (ap (λ k. take k chunk) all))
    (λ l h. h) (λ l h. refl) (omega (arith, told.1.1, long)) (omega arith) c.args.out.now (sym (ap (λ k. take k chunk) long)) refl
    (omega (arith, long, told.1.0)) (omega arith) (omega arith) (omega (arith, told.1.0)) within.few
