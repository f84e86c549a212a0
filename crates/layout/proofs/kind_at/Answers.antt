-- `kind_at` meets its contract: the blocks of each kind in the order of the table.
use native.Mathlib.Omega.{arith}
use mathlib.Core.Path.{◌≡◌}
use Prim.Native.Nat.{ℕ, zero, suc, ◌+◌, ◌<◌}
use Rattle.model.specs.Blocks.{Header, kinds, block_total}
use Rattle.image.specs.Header.{header_of}
use Rattle.layout.specs.Placed.{Placed}
use Rattle.layout.proofs.Placing.{placed}
use Rattle.layout.proofs.kind_at.Goals as goal

-- the kinds of one block that stand first
low : (h : Header) (k n : ℕ) → k ≡ n → n < 3 → Placed h k (n + 1)
unfolding kinds
low h k zero e a = placed h k 1 (omega arith) (omega arith) (omega arith)
low h k (suc zero) e a = placed h k 2 (omega arith) (omega arith) (omega arith)
low h k (suc (suc zero)) e a = placed h k 3 (omega arith) (omega arith) (omega arith)
low h k (suc (suc (suc n))) e a = absurd (omega arith)

pub returns-then-k-eq0 : goal.returns-then-k-eq0
returns-then-k-eq0 c = low (header_of c.args.h) c.args.k 0 c.if-k-eq0.true (omega arith)

pub returns-then-k-eq1 : goal.returns-then-k-eq1
returns-then-k-eq1 c = low (header_of c.args.h) c.args.k 1 c.if-k-eq1.true (omega arith)

pub returns-then-k-eq2 : goal.returns-then-k-eq2
returns-then-k-eq2 c = low (header_of c.args.h) c.args.k 2 c.if-k-eq2.true (omega arith)

pub returns-then-k-first_block : goal.returns-then-k-first_block
unfolding kinds
returns-then-k-first_block c =
    placed (header_of c.args.h) c.args.k 7 (omega arith) (omega arith) (omega (arith, c.first_block.ensures))

pub returns-then-k-first_block-2 : goal.returns-then-k-first_block-2
unfolding kinds
returns-then-k-first_block-2 c =
    placed (header_of c.args.h) c.args.k 4 (omega arith) (omega (arith, c.first_block.ensures)) (omega (arith, c.first_block-2.ensures))

pub returns-then-k-first_block-3 : goal.returns-then-k-first_block-3
unfolding kinds
returns-then-k-first_block-3 c =
    placed (header_of c.args.h) c.args.k 5 (omega arith) (omega (arith, c.first_block-2.ensures)) (omega (arith, c.first_block-3.ensures))

pub returns : goal.returns
unfolding kinds block_total
returns c =
    placed (header_of c.args.h) c.args.k 6 (omega arith) (omega (arith, c.first_block-3.ensures)) (omega (arith, c.requires.k_bound))
