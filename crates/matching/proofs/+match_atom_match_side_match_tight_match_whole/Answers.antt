-- Reading and matching call each other: a whole context its sides, a side what stars bind, that its atom, and brackets a whole context again.
use native.Mathlib.Omega.{arith}
use mathlib.Core.Path.{sym, ◌∙◌}
use Prim.Native.Nat.{◌+◌}
use lib.ListN.{drop}
use Rattle.contexts.specs.Context.{tight, side, whole}
use Rattle.contexts.specs.Fuel.{read_text, read_atom}
use Rattle.matching.proofs.Bytes.{starts_inside}
use Rattle.matching.proofs.Steps as steps
use Rattle.matching.proofs.+match_atom_match_side_match_tight_match_whole.Goals as goal

pub match_atom-match_whole-requires : goal.match_atom-match_whole-requires
match_atom-match_whole-requires t c =
    let a = c.args in
    let i = starts_inside a.text.now 40 a.from c.requires.inside (sym c.starts.ensures ∙ c.if-starts.true) in
    (omega (arith, c.decreases, i), record { inside = omega (arith, i); few = c.requires.few })

pub match_atom-returns-in_err-a : goal.match_atom-returns-in_err-a
match_atom-returns-in_err-a t c =
    let a = c.args in
    rw c.from_residual.ensures
    (steps.nothing_in_brackets a.text.now a.s.now a.depth a.from (sym c.starts.ensures ∙ c.if-starts.true) c.if-depth-eq0.false
    (steps.missed a.text.now a.s.now (steps.inner a.text.now a.s.now a.depth a.from) c.match_whole.result c.match_whole.ensures c.in_err-a.was))

pub match_atom-returns-then-not-starts : goal.match_atom-returns-then-not-starts
match_atom-returns-then-not-starts t c =
    let a = c.args in
    let k = steps.known a.text.now a.s.now (steps.inner a.text.now a.s.now a.depth a.from) c.match_whole.result c.in_ok-a.a c.match_whole.ensures c.in_ok-a.was in
    steps.not_closed a.text.now a.s.now a.depth a.from (sym c.starts.ensures ∙ c.if-starts.true) c.if-depth-eq0.false c.in_ok-a.a k (sym c.starts-then-starts.ensures ∙ c.if-not-starts.true)

pub match_atom-returns-then-starts : goal.match_atom-returns-then-starts
match_atom-returns-then-starts t c =
    let a = c.args in
    let k = steps.known a.text.now a.s.now (steps.inner a.text.now a.s.now a.depth a.from) c.match_whole.result c.in_ok-a.a c.match_whole.ensures c.in_ok-a.was in
    let e = sym c.starts-then-starts.ensures ∙ c.if-not-starts.false in
    steps.is_closed a.text.now a.s.now a.depth a.from (sym c.starts.ensures ∙ c.if-starts.true) c.if-depth-eq0.false c.in_ok-a.a k e
    (starts_inside a.text.now 41 c.in_ok-a.a.at k.inside e)

pub match_atom-returns-then-starts-2 : goal.match_atom-returns-then-starts-2
match_atom-returns-then-starts-2 t c =
    let a = c.args in
    let e = sym c.starts-2.ensures ∙ c.if-starts-2.true in
    steps.any_atom a.text.now a.s.now a.depth a.from c.pair_rows-rows.result (sym c.starts.ensures ∙ c.if-starts.false) e
    (starts_inside a.text.now 46 a.from c.requires.inside e) c.pair_rows-rows.ensures

pub match_tight-returns-in_err-a : goal.match_tight-returns-in_err-a
match_tight-returns-in_err-a t c =
    let a = c.args in
    rw c.from_residual.ensures
    (steps.no_tight a.text.now a.s.now a.depth a.from
    (steps.missed a.text.now a.s.now (read_atom read_text a.depth (drop a.from a.text.now)) c.match_atom.result c.match_atom.ensures c.in_err-a.was))

pub match_tight-returns-then-end-a : goal.match_tight-returns-then-end-a
match_tight-returns-then-end-a t c =
    let a = c.args in
    let k = steps.known a.text.now a.s.now (read_atom read_text a.depth (drop a.from a.text.now)) c.match_atom.result c.in_ok-a.a c.match_atom.ensures c.in_ok-a.was in
    steps.no_stars a.text.now a.s.now a.depth a.from c.in_ok-a.a k c.skip_stars-end.result c.skip_stars-end.ensures.read c.if-end-a.true

pub match_tight-returns : goal.match_tight-returns
match_tight-returns t c =
    let a = c.args in
    let k = steps.known a.text.now a.s.now (read_atom read_text a.depth (drop a.from a.text.now)) c.match_atom.result c.in_ok-a.a c.match_atom.ensures c.in_ok-a.was in
    let e = c.skip_stars-end.ensures in
    steps.stars a.text.now a.s.now a.depth a.from c.in_ok-a.a k c.skip_stars-end.result e.read c.star-rows.result e.within.0 c.if-end-a.false e.within.1 c.star-rows.ensures

pub match_side-returns-in_err-a : goal.match_side-returns-in_err-a
match_side-returns-in_err-a t c =
    let a = c.args in
    rw c.from_residual.ensures
    (steps.no_side a.text.now a.s.now a.depth a.from
    (steps.missed a.text.now a.s.now (read_text tight a.depth (drop a.from a.text.now)) c.match_tight.result c.match_tight.ensures c.in_err-a.was))

pub match_side-returns-then-not-begins_atom : goal.match_side-returns-then-not-begins_atom
match_side-returns-then-not-begins_atom t c =
    let a = c.args in
    let k = steps.known a.text.now a.s.now (read_text tight a.depth (drop a.from a.text.now)) c.match_tight.result c.in_ok-a.a c.match_tight.ensures c.in_ok-a.was in
    steps.last_of_side a.text.now a.s.now a.depth a.from c.in_ok-a.a k (sym c.begins_atom.ensures ∙ c.if-not-begins_atom.true)

pub match_side-match_side-requires : goal.match_side-match_side-requires
match_side-match_side-requires t c =
    let a = c.args in
    let k = steps.known a.text.now a.s.now (read_text tight a.depth (drop a.from a.text.now)) c.match_tight.result c.in_ok-a.a c.match_tight.ensures c.in_ok-a.was in
    (omega (arith, c.decreases, steps.progress a.text.now a.s.now tight a.depth a.from c.in_ok-a.a c.requires.inside k, k.inside), record { inside = k.inside; few = c.requires.few })

pub match_side-returns-in_err-b : goal.match_side-returns-in_err-b
match_side-returns-in_err-b t c =
    let a = c.args in
    let k = steps.known a.text.now a.s.now (read_text tight a.depth (drop a.from a.text.now)) c.match_tight.result c.in_ok-a.a c.match_tight.ensures c.in_ok-a.was in
    rw c.from_residual-in_err-b.ensures
    (steps.not_followed a.text.now a.s.now a.depth a.from c.in_ok-a.a k (sym c.begins_atom.ensures ∙ c.if-not-begins_atom.false)
    (steps.missed a.text.now a.s.now (read_text side a.depth (drop c.in_ok-a.a.at a.text.now)) c.match_side.result c.match_side.ensures c.in_err-b.was))

pub match_side-returns : goal.match_side-returns
match_side-returns t c =
    let a = c.args in
    let k = steps.known a.text.now a.s.now (read_text tight a.depth (drop a.from a.text.now)) c.match_tight.result c.in_ok-a.a c.match_tight.ensures c.in_ok-a.was in
    let l = steps.known a.text.now a.s.now (read_text side a.depth (drop c.in_ok-a.a.at a.text.now)) c.match_side.result c.in_ok-b.b c.match_side.ensures c.in_ok-b.was in
    steps.one_after_other a.text.now a.s.now a.depth a.from c.in_ok-a.a k (sym c.begins_atom.ensures ∙ c.if-not-begins_atom.false) c.in_ok-b.b c.compose-rows.result l c.compose-rows.ensures

pub match_whole-returns-in_err-a : goal.match_whole-returns-in_err-a
match_whole-returns-in_err-a t c =
    let a = c.args in
    rw c.from_residual.ensures
    (steps.no_whole a.text.now a.s.now a.depth a.from
    (steps.missed a.text.now a.s.now (read_text side a.depth (drop a.from a.text.now)) c.match_side.result c.match_side.ensures c.in_err-a.was))

pub match_whole-returns-then-not-starts : goal.match_whole-returns-then-not-starts
match_whole-returns-then-not-starts t c =
    let a = c.args in
    let k = steps.known a.text.now a.s.now (read_text side a.depth (drop a.from a.text.now)) c.match_side.result c.in_ok-a.a c.match_side.ensures c.in_ok-a.was in
    steps.last_of_whole a.text.now a.s.now a.depth a.from c.in_ok-a.a k (sym c.starts.ensures ∙ c.if-not-starts.true)

pub match_whole-match_whole-requires : goal.match_whole-match_whole-requires
match_whole-match_whole-requires t c =
    let a = c.args in
    let k = steps.known a.text.now a.s.now (read_text side a.depth (drop a.from a.text.now)) c.match_side.result c.in_ok-a.a c.match_side.ensures c.in_ok-a.was in
    let i = starts_inside a.text.now 124 c.in_ok-a.a.at k.inside (sym c.starts.ensures ∙ c.if-not-starts.false) in
    (omega (arith, c.decreases, steps.progress a.text.now a.s.now side a.depth a.from c.in_ok-a.a c.requires.inside k, i), record { inside = omega (arith, i); few = c.requires.few })

pub match_whole-returns-in_err-others : goal.match_whole-returns-in_err-others
match_whole-returns-in_err-others t c =
    let a = c.args in
    let k = steps.known a.text.now a.s.now (read_text side a.depth (drop a.from a.text.now)) c.match_side.result c.in_ok-a.a c.match_side.ensures c.in_ok-a.was in
    rw c.from_residual-in_err-others.ensures
    (steps.no_others a.text.now a.s.now a.depth a.from c.in_ok-a.a k (sym c.starts.ensures ∙ c.if-not-starts.false)
    (steps.missed a.text.now a.s.now (read_text whole a.depth (drop (c.in_ok-a.a.at + 1) a.text.now)) c.match_whole.result c.match_whole.ensures c.in_err-others.was))

pub match_whole-returns : goal.match_whole-returns
match_whole-returns t c =
    let a = c.args in
    let k = steps.known a.text.now a.s.now (read_text side a.depth (drop a.from a.text.now)) c.match_side.result c.in_ok-a.a c.match_side.ensures c.in_ok-a.was in
    let l = steps.known a.text.now a.s.now (read_text whole a.depth (drop (c.in_ok-a.a.at + 1) a.text.now)) c.match_whole.result c.in_ok-others.others c.match_whole.ensures c.in_ok-others.was in
    steps.one_or_other a.text.now a.s.now a.depth a.from c.in_ok-a.a k (sym c.starts.ensures ∙ c.if-not-starts.false) c.in_ok-others.others c.either-rows.result l c.either-rows.ensures
