-- `forms::pairs::put_letter` meets its contract.
use Prim.Native.Nat.{◌+◌, ◌*◌}
use native.Mathlib.Omega.{arith}
use mathlib.Core.Path.{refl}
use lib.ListN.{length-set}
use Rattle.forms.proofs.PairLaws.{row_stored}
use Rattle.forms.proofs.pairs.put_letter.Goals as goal

pub bounds-rows-at-2 : goal.bounds-rows-at-2
bounds-rows-at-2 c = omega (arith, length-set c.args.rows.now (256 * c.args.s + 1 + c.byte_at-n.result) c.args.a, c.byte_at-n.ensures.0)

pub returns : goal.returns
returns c = row_stored c.args.rows.now c.args.s c.args.a c.byte_at-n.result (c.byte_at-n.result + 1) c.requires.0 c.requires.1.0 c.byte_at-n.ensures.0 (omega (arith, c.byte_at-n.ensures.0, c.requires.1.1)) refl
