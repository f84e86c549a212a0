-- `filter::onward::renew` meets its contract: the parts of the index of forms, and the range of the lexicon.
use Prim.Native.Nat.{ℕ, ◌<◌}
use native.Mathlib.Omega.{arith}
use mathlib.Core.Path.{refl, sym, ap, subst}
use mathlib.Core.List.{List}
use Rattle.model.specs.Blocks.{Header, header}
use Rattle.model.specs.Refusals.{right_entries}
use Rattle.model.proofs.Booleans.{of_true}
use Rattle.image.specs.Header.{header_of}
use Rattle.lexicon.proofs.Laws.{lexicon_within}
use Rattle.forms.specs.Forms.{shared_in, skips_in}
use Rattle.filter.specs.Lexicons.{Reaches}
use Rattle.positions.specs.Stack.{feasible_of, reach_of, Filled}
use Rattle.filter.proofs.Parts.{slotted}
use Rattle.filter.proofs.onward.renew.Goals as goal

pub flags-requires : goal.flags-requires
flags-requires c = c.requires.forms_of.long

pub slots-requires : goal.slots-requires
slots-requires c = c.requires.forms_of.long

pub replace-requires : goal.replace-requires
replace-requires c =
    let range = c.lexicon_range-range.ensures in
    let forms = c.args.forms.now in
    let laid = c.requires.accepted.laid in
    let y = c.requires.reached.1 in
    let inside : c.args.y < (header c.args.image.now).lexicons = omega (arith, y, ap (λ (g : Header). g.lexicons) laid.header_is) in
    let right = of_true (right_entries c.args.image.now) c.requires.accepted.entries_right in
    let all = lexicon_within c.args.image.now (header_of c.args.h) laid right c.args.y y in
    let entries = ap (λ (g : Header). g.entries) laid.header_is in
    record {
      accepted = c.requires.accepted;
      filled = subst (Filled c.args.masks.now) (sym c.flags.ensures) c.requires.filled;
      reached = c.requires.reached.0;
      by_index = (shared_in forms, skips_in forms, slotted c.requires.forms_of c.args.y inside range.0 range.1 c.slots.ensures refl refl);
      y_bound = (omega (arith, y, laid.limits.lexicons_most), inside);
      low_value = (range.0, (range.1, (omega (arith, range.0, range.1), omega (arith, range.1, all, entries))));
    }

pub returns : goal.returns
returns c =
    let a = c.args in
    let reach = c.replace.new.reach in
    record {
      reached = c.replace.ensures.reached;
      reaches = λ q. subst
          (λ (l : List ℕ). Reaches a.image.now q (feasible_of a.masks.now l) (reach_of a.reach.now) → Reaches a.image.now q (feasible_of a.masks.now l) (reach_of reach))
          c.flags.ensures (c.replace.ensures.reaches q);
    }
