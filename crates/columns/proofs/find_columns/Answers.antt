-- `find_columns` meets its contract: the columns passed, for each pair.
use native.Mathlib.Omega.{arith}
use mathlib.Core.List.{List}
use mathlib.Core.Path.{◌≡◌, sym, ap, ap₂, subst, ◌∙◌}
use Prim.Native.Nat.{ℕ, ◌+◌, ◌<◌}
use lib.ListN.{get_or, get_or-replicate}
use Rattle.model.specs.Lists.{byte, count}
use Rattle.model.specs.RuleTables.{Pair, Sides, boundary_pair, letter_sets, pairs_and_boundary, column, matches, breadth}
use Rattle.model.proofs.Lists.{get_d_map_below}
use Rattle.letters.proofs.Laws.{laid_pairs}
use Rattle.sets.specs.Sides.{sides_of, pair_number}
use Rattle.columns.specs.Passes.{pair_in, listed}
use Rattle.columns.proofs.Choice.{NarrowestSoFar, pass_none, pass_read, pass_all, narrowest}
use Rattle.columns.proofs.Breadths.{matching, broad, breadth_most, narrowest_is}
use Rattle.columns.proofs.Passes.{pass_kept}
use Rattle.columns.proofs.find_columns.Goals as goal

pub loop-c-init : goal.loop-c-init
loop-c-init c = λ p h.
    let k : p < 256 = omega (arith, c.requires.laid.limits.pairs_most) in
    pass_read _ _ _ _ (pass_none _ _ c.args.columns 252) (get_or-replicate 256 p c.args.columns 0 k) (get_or-replicate 256 p 252 0 k)

pub loop-c-preserved : goal.loop-c-preserved
loop-c-preserved c = λ p h.
    let image = c.args.image.now in
    let sets = letter_sets image in
    let ps = pairs_and_boundary image in
    let t = c.args.t.now in
    let l = c.loop-c in
    let sides = c.pair_sides-pairs.result in
    let own_column : sides_of c.column_at-column.result ≡ column t l.c = c.column_at-column.ensures ∙ ap (column t) c.from.ensures in
    let x = pair_number image p in
    let own_pair : pair_in sides.lexical sides.surface p ≡ x =
    sym (get_d_map_below (pair_in sides.lexical sides.surface) (c.args.h.pairs + 1) p boundary_pair h) ∙ ap (λ (l : List Pair). get_or l p boundary_pair) c.pair_sides-pairs.ensures in
    let wide : count (matches sets (sides_of c.column_at-column.result)) (listed sides.lexical sides.surface (c.args.h.pairs + 1)) ≡ breadth sets ps (column t l.c) =
    ap₂ (λ (x : Sides) (l : List Pair). count (matches sets x) l) own_column c.pair_sides-pairs.ensures in
    let same = ap₂ (λ (y : Sides) (z : Pair). matches sets y z) (sym own_column) (sym own_pair) in
    pass_read _ _ _ _
    (pass_kept (matching sets ps t x) (broad sets ps t x) c.args.columns l.c (byte l.kept.best p) (byte l.kept.least p) (breadth_most c.requires.laid (column t l.c)) (l.invariant p h)
    (matches sets (sides_of c.column_at-column.result) (pair_in sides.lexical sides.surface p)) _ same wide)
    (c.keep_column.ensures.best_is p h) (c.keep_column.ensures.least_is p h)

pub returns : goal.returns
returns c =
    let image = c.args.image.now in
    let l = c.loop-c in
    let sets = letter_sets image in
    let ps = pairs_and_boundary image in
    let t = c.args.t.now in
    let q = laid_pairs c.requires.laid in
    let e : l.c ≡ c.args.columns = omega arith in
    record {
      each = λ p h.
          let x = pair_number image p in
          pass_all (matching sets ps t x) (broad sets ps t x) c.args.columns 252
          (subst (λ (k : ℕ). NarrowestSoFar (matching sets ps t x) (broad sets ps t x) c.args.columns 252 k (byte l.kept.best p) (byte l.kept.least p)) e (l.invariant p (omega arith)))
          ∙ ap (narrowest (matching sets ps t x) (broad sets ps t x)) c.requires.columned.count
          ∙ narrowest_is sets ps t x;
    }
