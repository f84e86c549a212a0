-- `key_of` meets its contract: at the loop's head the first eight numbers and i states are in their places.
use borrow.Author.Rules.{rules}
use native.Mathlib.Omega.{arith}
use mathlib.Core.Path.{◌≡◌, sym, ap, ◌∙◌}
use mathlib.Core.List.{List, [], ◌∷◌, ◌++◌}
use Prim.Native.Nat.{ℕ, ◌+◌, ◌<◌}
use lib.ListN.{length, get_or, take, replicate, length-set}
use lib.Seq.{get_or-take, get_or-drop, length-take-le}
use mir.Syntax.{w64}
use mir.Val.{Fits}
use Rattle.model.specs.Blocks.{Header, header}
use Rattle.listing.specs.declared.place.Place.{Place}
use Rattle.dead.specs.declared.Left.{Left}
use Rattle.dead.specs.Dead.{width_of, key_by}
use Rattle.dead.proofs.Agreeing.{Agree, agree_front, agree_set, agree_all}
use Rattle.dead.proofs.key_of.Goals as goal
use Rattle.dead.proofs.key_of.Goals.{Start}

abbrev eight : Left → Place → ℕ → ℕ → List ℕ
eight left place entries pairs = (pairs + 1) ∷ entries ∷ left.from ∷ left.to ∷ left.last ∷ place.nulls ∷ place.surface.letters ∷ place.surface.nulls ∷ []

-- there are 32 states, each a byte
states_long : (start : Start) → length start.args.place.states ≡ 32
states_long start = search rules

state_fits : (start : Start) (i : ℕ) → Fits w64 (get_or start.args.place.states i 0)
state_fits start i = search rules

-- the first eight numbers, by what is left
eight_in : (image : List ℕ) (place : Place) (entries pairs : ℕ) (left : Left) → Agree (eight left place entries pairs ++ replicate 32 0) (key_by image left place entries pairs) 8
eight_in image place entries pairs left = agree_front (eight left place entries pairs) (replicate 32 0) (take (header image).rules place.states)

pub loop-i-init : goal.loop-i-init
loop-i-init c =
    let a = c.args in
    let left = c.left_of-left.result in
    (search rules, (left, c.left_of-left.ensures, eight_in a.image.now a.place a.entries a.pairs left))

pub loop-i-preserved : goal.loop-i-preserved
loop-i-preserved c =
    let place = c.args.place in
    let i = c.loop-i.i in
    let (left, tells, agree) = c.loop-i.invariant.1 in
    let rules = (header c.args.image.now).rules in
    let key = key_by c.args.image.now left place c.args.entries c.args.pairs in
    let same = ap (λ (g : Header). g.rules) c.requires.accepted.laid.header_is in
    let inside : i < rules = omega (arith, c.loop-i-test.true) in
    let behind : 8 + i ≡ i + 8 = omega arith in
    let state : c.from.result ≡ get_or key (i + 8) 0 =
    c.from.ensures ∙ sym (get_or-take rules place.states i 0 inside) ∙ get_or-drop 8 key i 0 ∙ ap (λ (k : ℕ). get_or key k 0) behind in
    let next : (i + 8) + 1 ≡ (i + 1) + 8 = omega arith in
    (simp length-set c.loop-i.invariant.0, (left, tells, rw next at (agree_set c.loop-i.key key (i + 8) c.from.result (omega arith) state agree)))

pub returns : goal.returns
returns c =
    let image = c.args.image.now in
    let place = c.args.place in
    let rules = (header image).rules in
    let states = states_long (goal.at.returns c).Start in
    let same = ap (λ (g : Header). g.rules) c.requires.accepted.laid.header_is in
    let long = length-take-le rules place.states (omega (arith, states, c.requires.accepted.laid.limits.rules_most)) in
    let (left, tells, agree) = c.loop-i.invariant.1 in
    let key = key_by image left place c.args.entries c.args.pairs in
    record {
      left = left;
      tells = tells;
      is = sym (agree_all key c.loop-i.key (width_of image) (omega arith) (omega arith) (λ k h. sym (agree k (omega (arith, c.loop-i-test.false)))));
    }
