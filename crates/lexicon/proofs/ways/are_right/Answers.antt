-- `are_right` meets its contract: what test 8 asks is asked of the mark and the set in form 2, and of the continuation in form 1.
use mathlib.Core.Bool.{◌||◌}
use mathlib.Core.Path.{sym, ap, ◌∙◌}
use Prim.Native.Nat.{ℕ}
use lib.ListN.{drop}
use lib.Seq.{get_or-drop}
use lib.Dec.{ltb, eqb}
use Rattle.lexicon.proofs.WayLaws.{ways_form}
use Rattle.lexicon.proofs.ways.are_right.Goals as goal

pub returns : goal.returns
returns c =
    c.is_continuation.ensures
    ∙ ap (λ (n : ℕ). ltb n c.args.h.lexicons || eqb n 255) (c.byte_at.ensures.0 ∙ sym (get_or-drop c.args.at c.args.image.now 13 0))
    ∙ sym (ways_form (drop c.args.at c.args.image.now) c.args.h.form c.args.h.lexicons c.if-h-eq2.false)
