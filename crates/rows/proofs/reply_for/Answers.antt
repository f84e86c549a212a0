-- `reply_for` meets its contract: one case of the reply at each return.
use native.Mathlib.Omega.{arith}
use mathlib.Core.Path.{sym, ap, ◌∙◌}
use Prim.Native.Nat.{ℕ}
use Rattle.rows.specs.Fill.{reply_for}
use Rattle.rows.proofs.Fill.{reply_none, reply_all, reply_more}
use Rattle.rows.proofs.reply_for.Goals as goal

pub returns-then-found-eq0 : goal.returns-then-found-eq0
returns-then-found-eq0 c = sym (ap (λ (n : ℕ). reply_for n c.args.rows) c.if-found-eq0.true ∙ reply_none c.args.rows)

pub returns-then-found-rows : goal.returns-then-found-rows
returns-then-found-rows c = sym (reply_all c.args.rows c.args.found (omega arith) (omega arith))

pub returns : goal.returns
returns c = sym (reply_more c.args.rows c.args.found (omega arith))
