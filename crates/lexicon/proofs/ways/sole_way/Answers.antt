-- `sole_way` meets its contract: what is left without the lowest lexicon is none, so the number is that one power of two.
use native.Mathlib.Omega.{arith}
use mathlib.Core.Logic.{inl}
use Rattle.digits.proofs.Bits.{digit_most}
use Rattle.lexicon.proofs.ways.sole_way.Goals as goal

pub returns : goal.returns
returns c =
    let x = c.lowest-x in
    let most = digit_most c.args.ways.bits x.result x.ensures.0.there in
    record {
      in_bound = inl x.ensures.1;
      ends = λ e. absurd (omega (arith, x.ensures.1));
      goes = λ l. (c.if-ways.false, omega (arith, c.without.ensures, c.if-without-ne0.false, most));
    }
