-- `next_of_set` meets its contract: from the number asked for on, the lexicons left have the entries that all had.
use native.Mathlib.Omega.{arith}
use mathlib.Core.Path.{refl, ap, ◌∙◌}
use lib.Pow.{pow_pos}
use Rattle.model.specs.Blocks.{Header, header}
use Rattle.image.specs.Header.{header_of}
use Rattle.digits.proofs.Bits.{digit_most}
use Rattle.listing.proofs.Ranges.{some_taken, known_taken, passed_over, set_done, set_found}
use Rattle.listing.proofs.opening.next_of_set.Goals as goal

pub loop-rest-init : goal.loop-rest-init
loop-rest-init c = (c.requires.known.0, λ e k. refl)

pub lowest-x-requires : goal.lowest-x-requires
lowest-x-requires c = omega arith

pub without-rest-requires : goal.without-rest-requires
without-rest-requires c = (c.lowest-x.ensures.0.there, c.lowest-x.ensures.1)

pub lexicon_range-range-requires : goal.lexicon_range-range-requires
lexicon_range-range-requires c =
    let known = c.loop-rest.invariant.0 c.lowest-x.result c.lowest-x.ensures.0.there in
    let same = ap (λ (g : Header). g.lexicons) c.requires.accepted.laid.header_is in
    record { accepted = c.requires.accepted; index_value = c.requires.index_value; x_lt_lexicons = omega (arith, known, same) }

pub returns-then-first-range : goal.returns-then-first-range
returns-then-first-range c =
    let a = c.args in
    let rest = c.loop-rest in
    let r = c.lexicon_range-range in
    rw c.without-rest.ensures
    (set_found a.image.now (header_of a.h) c.requires.accepted a.bits rest.rest a.from c.requires.known.1 rest.invariant.1 rest.invariant.0 c.lowest-x.result
    c.lowest-x.ensures.0 r.result.low r.result.high c.max-first.result r.ensures.0 r.ensures.1 c.max-first.ensures c.if-first-range.true)

pub loop-rest-smaller : goal.loop-rest-smaller
loop-rest-smaller c = omega (arith, c.without-rest.ensures, pow_pos c.lowest-x.result, digit_most c.loop-rest.rest c.lowest-x.result c.lowest-x.ensures.0.there)

pub loop-rest-preserved : goal.loop-rest-preserved
loop-rest-preserved c =
    let image = c.args.image.now in
    let lexicons = (header image).lexicons in
    let rest = c.loop-rest in
    let r = c.lexicon_range-range in
    let x = c.lowest-x.result in
    let there = c.lowest-x.ensures.0.there in
    let out = passed_over image x c.args.from r.result.low r.result.high c.max-first.result r.ensures.0 r.ensures.1 c.max-first.ensures c.if-first-range.false in (
      rw c.without-rest.ensures (known_taken image lexicons rest.rest x there rest.invariant.0),
      λ e k. rw c.without-rest.ensures (rest.invariant.1 e k ∙ some_taken image lexicons rest.rest x there e (out e k)),
    )

pub returns : goal.returns
returns c =
    set_done c.args.image.now (header_of c.args.h) c.requires.accepted c.args.bits c.loop-rest.rest c.args.from c.requires.known.1 c.loop-rest.invariant.1 (omega arith)
