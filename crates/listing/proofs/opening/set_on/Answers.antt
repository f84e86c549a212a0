-- `set_on` meets its contract: the first lexicon, or those that the last entry names.
use native.Mathlib.Omega.{arith}
use mathlib.Core.Logic.{⊎_elim}
use mathlib.Core.Path.{ap, subst}
use Prim.Native.Nat.{◌<◌, ◌≤◌}
use Rattle.model.specs.Blocks.{Header, header}
use Rattle.model.specs.Lexicon.{entry, goes_to, right_ways}
use Rattle.model.specs.Refusals.{right_entries}
use Rattle.model.proofs.Booleans.{of_true}
use Rattle.image.specs.Header.{header_of}
use lib.Dec.{T}
use Rattle.digits.specs.Ways.{Names}
use Rattle.lexicon.proofs.Laws.{ways_right}
use Rattle.lexicon.proofs.WayLaws.{bits_known}
use Rattle.listing.proofs.Ranges.{root_set, entry_ways}
use Rattle.listing.proofs.opening.set_on.Goals as goal
use Rattle.listing.proofs.opening.set_on.Goals.{Else-last-eq-ROOT}

pub returns-then-last-eq-ROOT : goal.returns-then-last-eq-ROOT
returns-then-last-eq-ROOT c =
    root_set c.args.image.now c.args.last c.if-last-eq-ROOT.true (omega (arith, c.requires.accepted.laid.limits.lexicons_least, ap (λ (g : Header). g.lexicons) c.requires.accepted.laid.header_is))

-- past the test, the last entry is one of the image
last_in : (c : Else-last-eq-ROOT) → c.args.last < c.args.h.entries
last_in c = ⊎_elim (λ e. absurd (c.if-last-eq-ROOT.false e)) (λ l. l) c.requires.fact

pub ways_of-requires : goal.ways_of-requires
ways_of-requires c = record { laid = c.requires.accepted.laid; e_lt_entries = last_in c }

pub returns : goal.returns
returns c =
    let image = c.args.image.now in
    let last = c.args.last in
    let bits = c.ways_of.result.bits in
    let laid = c.requires.accepted.laid in
    let same = laid.header_is in
    let names = subst (λ (g : Header). Names (goes_to (entry image last) g.form) bits) same c.ways_of.ensures.bits in
    let right = subst (λ (g : Header). T (right_ways (entry image last) g.form g.lexicons)) same
    (ways_right image (header_of c.args.h) laid (of_true (right_entries image) c.requires.accepted.entries_right) last (last_in (goal.at.returns c).Else-last-eq-ROOT)) in
    let few : (header image).lexicons ≤ 64 = omega (arith, laid.limits.lexicons_most, ap (λ (g : Header). g.lexicons) same) in
    record {
      known = bits_known (entry image last) (header image).form (header image).lexicons right bits (omega arith) names;
      some = entry_ways image last bits (omega (arith, last_in (goal.at.returns c).Else-last-eq-ROOT, laid.limits.entries_most)) few names;
    }
