-- `path_linked` meets its contract: whether the rest of the path is linked from the lexicons that are next decides.
use native.Mathlib.Omega.{arith}
use mathlib.Core.Bool.{true, ◌&&◌}
use mathlib.Core.Path.{◌≡◌, sym, ap, ap₂, ◌∙◌, subst}
use lib.Dec.{ltb}
use Rattle.rules.specs.Paths.{in_some}
use Prim.Native.Nat.{ℕ, ◌+◌, ◌≤◌, ◌<◌}
use lib.ListN.{length, get_or, drop}
use mathlib.Core.List.{List}
use Rattle.image.specs.Header.{header_of}
use Rattle.model.specs.Blocks.{Header, header}
use Rattle.model.specs.Lexicon.{entry, may_stop, goes_to}
use Rattle.model.specs.Query.{entry_numbers}
use Rattle.digits.specs.Ways.{Names}
use Rattle.rules.proofs.PathLaws.{laid_entries, length_entry_numbers, entry_number, may_open, linked_start, linked_end, linked_fails, linked_on, linked_ways, may_open_entry}
use Rattle.rules.proofs.paths.path_linked.Goals as goal
use Rattle.rules.proofs.paths.path_linked.Goals.{After-may_open}

-- the entry that is tried
module _ (c : After-may_open) where
  abbrev image : List ℕ
  image = c.args.image.now

  abbrev es : List ℕ
  es = entry_numbers c.args.path.now

  abbrev e : ℕ
  e = c.number_at-e.result

  same : header_of c.args.h ≡ header image
  same = c.requires.laid.header_is

  inside : c.loop-i.i < length es
  inside = omega (arith, length_entry_numbers c.args.path.now)

  this : get_or es c.loop-i.i 0 ≡ e
  this = entry_number c.args.path.now c.loop-i.i (omega arith) ∙ sym c.number_at-e.ensures.0

  opened : c.may_open.result ≡ may_open image c.loop-i.bits e (header image).entries
  opened = c.may_open.ensures ∙ ap₂ (λ (x n : ℕ). in_some image x c.loop-i.bits e && ltb e n) (ap (λ (g : Header). g.lexicons) same) (laid_entries c.requires.laid)

  is_entry : may_open image c.loop-i.bits e (header image).entries ≡ true → e < c.args.h.entries
  is_entry t = omega (arith, may_open_entry image c.loop-i.bits e (header image).entries t, laid_entries c.requires.laid)

pub loop-i-init : goal.loop-i-init
loop-i-init c =
    let some : 1 ≤ (header c.args.image.now).lexicons = omega (arith, c.requires.laid.limits.lexicons_least, ap (λ (g : Header). g.lexicons) c.requires.laid.header_is) in
    linked_start c.args.image.now some (entry_numbers c.args.path.now)

pub may_open-requires : goal.may_open-requires
may_open-requires c = c.requires.laid

pub returns-then-not-may_open : goal.returns-then-not-may_open
returns-then-not-may_open c =
    let place = (goal.at.returns-then-not-may_open c).After-may_open in
    sym (linked_fails (image place) (es place) c.loop-i.i c.loop-i.bits c.loop-i.stop (e place) (inside place) (this place) (sym (opened place) ∙ c.if-not-may_open.true)) ∙ c.loop-i.invariant

pub ways_of-ways-requires : goal.ways_of-ways-requires
ways_of-ways-requires c =
    let place = (goal.at.ways_of-ways-requires c).After-may_open in
    record { laid = c.requires.laid; e_lt_entries = is_entry place (sym (opened place) ∙ c.if-not-may_open.false) }

pub loop-i-preserved : goal.loop-i-preserved
loop-i-preserved c =
    let place = (goal.at.loop-i-preserved c).After-may_open in
    let entry_bytes = entry (image place) (e place) in
    let ways = c.ways_of-ways.result in
    let f : (header_of c.args.h).form ≡ (header (image place)).form = ap (λ (g : Header). g.form) (same place) in
    let few : (header (image place)).lexicons ≤ 64 = omega (arith, c.requires.laid.limits.lexicons_most, ap (λ (g : Header). g.lexicons) (same place)) in
    sym (linked_ways (image place) (e place) ways.bits ways.stop few
    (subst (λ (n : ℕ). ways.stop ≡ may_stop entry_bytes n) f c.ways_of-ways.ensures.stop)
    (subst (λ (n : ℕ). Names (goes_to entry_bytes n) ways.bits) f c.ways_of-ways.ensures.bits)
    (drop (c.loop-i.i + 1) (es place)))
    ∙ sym (linked_on (image place) (es place) c.loop-i.i c.loop-i.bits c.loop-i.stop (e place) (inside place) (this place) (sym (opened place) ∙ c.if-not-may_open.false))
    ∙ c.loop-i.invariant

pub returns : goal.returns
returns c =
    sym (linked_end c.args.image.now c.loop-i.bits c.loop-i.stop c.loop-i.i (entry_numbers c.args.path.now) (omega (arith, length_entry_numbers c.args.path.now)))
    ∙ c.loop-i.invariant
