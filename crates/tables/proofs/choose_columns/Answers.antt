-- `choose_columns` meets its contract: the columns of the rule's table, and whether each is one.
use native.Mathlib.Omega.{arith}
use mathlib.Core.Bool.{not}
use mathlib.Core.List.{List, ◌++◌}
use mathlib.Core.Path.{◌≡◌, refl, ap, ◌∙◌}
use Prim.Native.Nat.{ℕ, ◌+◌}
use lib.Dec.{eqb}
use lib.ListN.{drop}
use Rattle.model.specs.Lists.{every, byte}
use Rattle.model.specs.Blocks.{header}
use Rattle.image.specs.Header.{header_of}
use Rattle.letters.proofs.Laws.{laid_pairs}
use Rattle.columns.specs.Breadths.{columns_by}
use Rattle.columns.specs.Passes.{front}
use Rattle.tables.proofs.Laws.{read_columned, columns_written, columns_tested}
use Rattle.columns.proofs.Passes.{front_columns, none_is}
use Rattle.tables.proofs.choose_columns.Goals as goal
use Rattle.tables.proofs.choose_columns.Goals.{After-find_columns-best}

-- the columns found
module _ (c : After-find_columns-best) where
  abbrev t : List ℕ
  t = c.table_at-t.result.now

  found : front (c.args.h.pairs + 1) c.find_columns-best.result ≡ columns_by c.args.image.now t
  found =
      let q = laid_pairs c.requires.laid in
      let e : c.args.h.pairs + 1 ≡ (header c.args.image.now).pairs + 1 = omega arith in
      ap (λ (n : ℕ). front n c.find_columns-best.result) e ∙ front_columns c.args.image.now t c.find_columns-best.result c.find_columns-best.ensures

pub find_columns-best-requires-clause-columned : goal.find_columns-best-requires-clause-columned
find_columns-best-requires-clause-columned c =
    let t = c.table_at-t in
    read_columned c.args.image.now (header_of c.args.h) c.requires.laid c.requires.t c.args.r c.requires.r_bound t.result.now t.ensures.0 t.ensures.1 (byte t.result.now 0) refl

pub returns-clause-out_after : goal.returns-clause-out_after
returns-clause-out_after c =
    let a = c.args in
    let at = (goal.at.returns-clause-out_after c).After-find_columns-best in
    let rest = drop (a.h.pairs + 1) a.out.now in
    columns_written a.image.now a.r (t at) c.put_columns.new.out rest c.table_at-t.ensures.0 (c.put_columns.ensures.out_after ∙ ap (λ (l : List ℕ). l ++ rest) (found at))

pub returns-clause-value : goal.returns-clause-value
returns-clause-value c =
    let a = c.args in
    let at = (goal.at.returns-clause-value c).After-find_columns-best in
    columns_tested a.image.now a.r (t at) c.put_columns.result c.table_at-t.ensures.0
    (c.put_columns.ensures.value
    ∙ ap (every (λ k. not (eqb k (byte (t at) 0)))) (found at)
    ∙ none_is a.image.now (t at) c.find_columns-best.result c.find_columns-best.ensures)
