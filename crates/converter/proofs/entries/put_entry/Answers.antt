-- `put_entry` meets its contract: sixteen bytes are copied, byte 13 is written over, and in form 2 the set follows.
use Prim.Native.Nat.{ℕ, ◌+◌, ◌-◌, ◌<◌, ◌≤◌}
use native.Mathlib.Omega.{arith}
use mathlib.Core.Path.{◌≡◌, sym, ap, ap₂, ◌∙◌}
use mathlib.Core.List.{List, ◌++◌}
use lib.ListN.{length, take, drop, set, length-append, length-take, length-drop, length-set}
use Rattle.model.specs.Lists.{bit}
use Rattle.model.specs.Blocks.{Header, entry_width}
use Rattle.model.specs.Lexicon.{entry}
use Rattle.image.specs.Header.{header_of}
use Rattle.image.proofs.Records.{record_part, entry_wide}
use Rattle.lexicon.proofs.Laws.{width_is, entry_room}
use Rattle.conversion.specs.Conversion.{way_bytes}
use Rattle.converter.proofs.EntryLaws.{asks_one, one_stored, many_stored}
use Rattle.converter.proofs.entries.put_entry.Goals as goal
use Rattle.converter.proofs.entries.put_entry.Goals.{After-copy_from_slice, After-ways_of-ways}

-- the entry, where it begins, and its ways on
module _ (w : After-ways_of-ways) where
  abbrev image : List ℕ
  image = w.args.image.now

  abbrev h : Header
  h = header_of w.args.h

  abbrev at : ℕ
  at = w.entry_start-at.result

  abbrev e : List ℕ
  e = entry image w.args.e

  e_is : e ≡ take (entry_width h.form) (drop at image)
  e_is = record_part w.requires.laid 6 w.args.e ∙ ap₂ (λ (w b : ℕ). take w (drop b image)) (width_is h) (sym w.entry_start-at.ensures.0)

  room : at + entry_width h.form < length image
  room = omega (arith, entry_room image h w.requires.laid w.args.e w.requires.e_lt_entries.0, w.entry_start-at.ensures.0)

  there : 16 ≤ length (drop at image)
  there = omega (arith, room, entry_wide h.form, length-drop at image)

  out_wide : 16 ≤ length w.args.out.now
  out_wide = omega (arith, w.requires.e_lt_entries.1, entry_wide (3 - h.form))

-- the sixteen bytes that are copied
module _ (c : After-copy_from_slice) where
  abbrev front : List ℕ
  front = c.copy_from_slice.new.self

  front_long : length front ≡ length (take 16 c.args.out.now)
  front_long = c.copy_from_slice.ensures.len

  copied : front ++ drop 16 c.args.out.now ≡ take 16 (drop c.entry_start-at.result c.args.image.now) ++ drop 16 c.args.out.now
  copied =
      let at = c.entry_start-at.result in
      let long : at + 16 - at ≡ 16 = omega arith in
      ap (λ (l : List ℕ). l ++ drop 16 c.args.out.now) (c.copy_from_slice.ensures.after ∙ ap (λ (n : ℕ). take n (drop at c.args.image.now)) long)

  copied_long : 16 ≤ length c.args.out.now → length (front ++ drop 16 c.args.out.now) ≡ length c.args.out.now
  copied_long wide = let out = c.args.out.now in omega (arith, length-append front (drop 16 out), front_long, length-take 16 out, length-drop 16 out)

pub slice_bounds-copy_from_slice-end-3 : goal.slice_bounds-copy_from_slice-end-3
slice_bounds-copy_from_slice-end-3 c =
    let w = (goal.at.slice_bounds-copy_from_slice-end-3 c).After-ways_of-ways in
    omega (arith, room w, entry_wide (h w).form)

pub copy_from_slice-requires : goal.copy_from_slice-requires
copy_from_slice-requires c =
    let w = (goal.at.copy_from_slice-requires c).After-ways_of-ways in
    let out = c.args.out.now in
    let rest = drop (at w) (image w) in
    omega (arith, length-take 16 out, out_wide w, length-take (at w + 16 - at w) rest, there w)

pub mark_of-requires : goal.mark_of-requires
mark_of-requires c =
    let w = (goal.at.mark_of-requires c).After-ways_of-ways in
    let p = c.requires.one_way in
    let ways = c.ways_of-ways in
    λ two off. asks_one (e w) (h w).form (h w).lexicons ways.result.bits ways.result.stop two p.right (p.one two) ways.ensures.stop ways.ensures.bits off

pub bounds-out-13 : goal.bounds-out-13
bounds-out-13 c =
    let goes = goal.at.bounds-out-13 c in
    let wide = out_wide goes.After-ways_of-ways in
    omega (arith, copied_long goes.After-copy_from_slice wide, wide)

-- past the test of the form
pub put_ways-requires : goal.put_ways-requires
put_ways-requires c =
    let goes = goal.at.put_ways-requires c in
    let form = (h goes.After-ways_of-ways).form in
    let wide : entry_width (3 - form) ≡ 24 = ap (λ (f : ℕ). entry_width (3 - f)) c.if-h-eq1.true in
    let long = copied_long goes.After-copy_from_slice (out_wide goes.After-ways_of-ways) in
    omega (arith, length-set (front goes.After-copy_from_slice ++ drop 16 c.args.out.now) 13 c.mark_of.result, long, c.requires.e_lt_entries.1, wide)

-- form 1 becomes form 2
pub returns-then-h-eq1 : goal.returns-then-h-eq1
returns-then-h-eq1 c =
    let goes = goal.at.returns-then-h-eq1 c in
    let w = goes.After-ways_of-ways in
    let m = c.mark_of.result in
    let ways = c.ways_of-ways in
    let bits = ways.result.bits in
    let one = c.if-h-eq1.true in
    let rest = drop (at w) (image w) in
    let is = e_is w ∙ ap (λ (f : ℕ). take (entry_width f) rest) one in
    c.put_ways.ensures
    ∙ ap (λ (l : List ℕ). take 16 (set l 13 m) ++ way_bytes (bit bits)) (copied goes.After-copy_from_slice)
    ∙ many_stored (e w) rest c.args.out.now (h w).form bits ways.result.stop m ways.ensures.stop ways.ensures.bits c.mark_of.ensures (there w) one is

-- form 2 becomes form 1
pub returns-else-h-eq1 : goal.returns-else-h-eq1
returns-else-h-eq1 c =
    let goes = goal.at.returns-else-h-eq1 c in
    let w = goes.After-ways_of-ways in
    let m = c.mark_of.result in
    let ways = c.ways_of-ways in
    let two : (h w).form ≡ 2 = omega (arith, c.requires.one_way.is_form, c.if-h-eq1.false) in
    let narrow : entry_width (3 - (h w).form) ≡ 16 = ap (λ (f : ℕ). entry_width (3 - f)) two in
    let rest = drop (at w) (image w) in
    let is = e_is w ∙ ap (λ (f : ℕ). take (entry_width f) rest) two in
    let long : length c.args.out.now ≡ 16 = omega (arith, c.requires.e_lt_entries.1, narrow) in
    ap (λ (l : List ℕ). set l 13 m) (copied goes.After-copy_from_slice)
    ∙ one_stored (e w) rest c.args.out.now (h w).form ways.result.bits ways.result.stop m ways.ensures.stop ways.ensures.bits c.mark_of.ensures (there w) two is long
