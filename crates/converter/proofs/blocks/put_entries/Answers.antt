-- `put_entries` meets its contract: a block is opened, and its records are put one after the other, so that after n of them it is the block as built.
use borrow.Author.Rules.{rules}
use Prim.Native.Nat.{ℕ, suc, ◌+◌, ◌*◌, ◌-◌, ◌<◌, ◌≤◌}
use native.Mathlib.Nat.{le_refl, mul-le-mul, mul-suc, div-le_self}
use native.Mathlib.Omega.{arith}
use mathlib.Core.Path.{◌≡◌, refl, sym, ap, ap₂, ◌∙◌, subst}
use mathlib.Core.List.{List, [], ◌∷◌}
use lib.ListN.{drop, length-take, length-drop}
use borrow.Rule.Slice.PartMut.{same_len_mid}
use Rattle.model.specs.Lists.{below}
use Rattle.model.specs.Blocks.{Header, header, entry_width, record_width, per_block, first_block, records_at}
use Rattle.model.specs.Lexicon.{entry}
use Rattle.image.specs.Header.{header_of}
use Rattle.image.specs.Laid.{Laid}
use Rattle.image.proofs.Records.{counted, entry_wide}
use Rattle.lexicon.proofs.Laws.{width_is}
use Rattle.built.specs.Built.{record_in}
use Rattle.conversion.specs.Conversion.{other_header, other_records, other_entry}
use Rattle.converter.specs.Answers.{Converting}
use Rattle.converter.proofs.Stores.{zeros, parts_to, parts_more}
use Rattle.converter.proofs.BlockLaws.{o_is, o_limits, read_laid, entries_placed, entry_asked, few_here, entry_number, record_put, records_wide, block_made}
use Rattle.model.proofs.Parts.{Wide}
use Rattle.converter.proofs.blocks.put_entries.Invariants.{madeTo}
use Rattle.converter.proofs.blocks.put_entries.Goals as goal
use Rattle.converter.proofs.blocks.put_entries.Goals.{After-records_at-n, In-loop-i}

made_none : (image : List ℕ) (o : Header) (k wide n : ℕ) → 0 ∷ 0 ∷ 6 ∷ n ∷ zeros 508 ≡ madeTo image o k wide n 0
unfolding parts_to
made_none image o k wide n = let e : 4 ≡ 4 + wide * 0 = omega arith in ap (λ (m : ℕ). 0 ∷ 0 ∷ 6 ∷ n ∷ (drop m (0 ∷ 0 ∷ 6 ∷ n ∷ zeros 508))) e

-- the widths of the other form
other_wide : (h o : Header) → o ≡ other_header h → record_width o 6 ≡ entry_width (3 - h.form)
unfolding other_header
other_wide h o e = width_is o ∙ ap (λ (g : Header). entry_width g.form) e

-- what is known before the loop
module _ (c : After-records_at-n) where
  abbrev image : List ℕ
  image = c.args.image.now

  abbrev h : Header
  h = header_of c.args.h

  abbrev o : Header
  o = header_of c.args.o

  abbrev k : ℕ
  k = c.args.k

  abbrev v : Converting image h o
  v = c.requires.converting

  abbrev wide : ℕ
  wide = c.width-wide.result

  abbrev n : ℕ
  n = c.records_at-n.result

  wide_is : wide ≡ record_width o 6
  wide_is = c.width-wide.ensures

  n_is : n ≡ records_at o k
  n_is = c.records_at-n.ensures.0

  before_is : c.per_block.result * (k - c.first_block.result) ≡ per_block o 6 * (k - first_block o 6)
  before_is = ap₂ (λ (p f : ℕ). p * (k - f)) c.per_block.ensures c.first_block.ensures

  fits : wide * n ≤ 506
  fits = omega (arith, ap₂ (λ (a b : ℕ). a * b) wide_is n_is, few_here v k c.requires.o_bound.0 c.requires.o_bound.1)

  fits_one : (i : ℕ) → i < n → wide * i + wide ≤ 506
  fits_one i l = omega (arith, fits, mul-le-mul {n₁ = wide} {m₁ = suc i} {n₂ = wide} {m₂ = n} (le_refl wide) l, mul-suc wide i)

  few_records : n < 256
  few_records = omega (arith, fits, mul-le-mul {n₁ = 16} {m₁ = n} {n₂ = wide} {m₂ = n} (omega (arith, wide_is, width_is o, entry_wide o.form)) (le_refl n))

  number_is : (i : ℕ) → i < n → c.per_block.result * (k - c.first_block.result) + i < h.entries
  number_is i l = omega (arith, before_is, entry_number v k c.requires.o_bound.0 c.requires.o_bound.1 i (omega (arith, n_is)))

  h_laid : Laid image h
  h_laid = subst (Laid image) (sym v.header_is) (read_laid v)

  -- record i of the block
  abbrev recordOf : ℕ → List ℕ
  recordOf = record_in (other_header (header image)) (other_records image) k

  -- those before record i are of the one width
  sized : (i : ℕ) → i < n → Wide wide recordOf (below i)
  sized i l =
      let all = records_wide v k c.requires.o_bound.0 c.requires.o_bound.1 i (omega (arith, n_is, l)) in
      let here = subst (λ (w : ℕ). Wide w (record_in o (other_records image) k) (below i)) (sym wide_is) all in
      subst (λ (g : Header). Wide wide (record_in g (other_records image) k) (below i)) (o_is v) here

pub first_block-requires : goal.first_block-requires
first_block-requires c = counted _ (o_limits c.requires.converting)

pub overflow_mul-before : goal.overflow_mul-before
overflow_mul-before c =
    let per = c.per_block.result in
    let few : per ≤ 506 = omega (arith, c.per_block.ensures, div-le_self 506 (record_width (header_of c.args.o) 6)) in
    let all = mul-le-mul {n₁ = per} {m₁ = c.args.k - c.first_block.result} {n₂ = 506} {m₂ = 128} few (omega (arith, c.requires.converting.few, c.requires.o_bound.1)) in
    search rules

pub records_at-n-requires : goal.records_at-n-requires
records_at-n-requires c =
    let v = c.requires.converting in
    let bound = c.requires.o_bound in
    record { counted = counted _ (o_limits v); placed = (entries_placed _ c.args.k bound.0 bound.1, omega (arith, v.few, bound.1)) }

pub open_block-requires : goal.open_block-requires
open_block-requires c = (c.requires.block_len, few_records (goal.at.open_block-requires c).After-records_at-n)

pub loop-i-init : goal.loop-i-init
loop-i-init c =
    let r = (goal.at.loop-i-init c).After-records_at-n in
    (c.open_block.auto.block ∙ c.requires.block_len, c.open_block.ensures ∙ made_none (image r) (other_header (header (image r))) (k r) (wide r) (n r))

pub overflow_mul-from : goal.overflow_mul-from
overflow_mul-from c = let f = fits_one (goal.at.overflow_mul-from c).After-records_at-n c.loop-i.i c.loop-i-test.true in search rules

pub overflow_add-from : goal.overflow_add-from
overflow_add-from c = let f = fits_one (goal.at.overflow_add-from c).After-records_at-n c.loop-i.i c.loop-i-test.true in search rules

pub overflow_add-before : goal.overflow_add-before
overflow_add-before c =
    let r = (goal.at.overflow_add-before c).After-records_at-n in
    let e = number_is r c.loop-i.i c.loop-i-test.true in
    let l = (h_laid r).limits.entries_most in
    search rules

pub put_entry-requires : goal.put_entry-requires
put_entry-requires c =
    let r = (goal.at.put_entry-requires c).After-records_at-n in
    let i = c.loop-i.i in
    let from = 4 + wide r * i in
    let block = c.loop-i.block in
    let e = number_is r i c.loop-i-test.true in
    let part = length-take (from + wide r - from) (drop from block) in
    let rest = length-drop from block in
    let width = other_wide (h r) (o r) (v r).other_is in
    let fits = fits_one r i c.loop-i-test.true in
    record { laid = h_laid r; e_lt_entries = (e, omega (arith, fits, part, rest, c.loop-i.invariant.0, wide_is r, width)); one_way = entry_asked (v r) _ e }

pub loop-i-preserved : goal.loop-i-preserved
loop-i-preserved c =
    let r = (goal.at.loop-i-preserved c).After-records_at-n in
    let i = c.loop-i.i in
    let from = 4 + wide r * i in
    let block = c.loop-i.block in
    let size : from + wide r - from ≡ wide r = omega arith in
    let part = c.put_entry.new.out in
    let entry-put = c.put_entry.ensures ∙ ap (λ (b : ℕ). other_entry (h r).form (entry (image r) (b + i))) (before_is r) in
    let record_is = record_put (v r) (k r) c.requires.o_bound.0 c.requires.o_bound.1 i in
    let made : part ≡ recordOf r i = entry-put ∙ sym record_is ∙ ap (λ (g : Header). record_in g (other_records (image r)) (k r) i) (o_is (v r)) in
    let long = same_len_mid from (from + wide r - from) block part c.put_entry.auto.out ∙ c.loop-i.invariant.0 in
    let wides = sized r i c.loop-i-test.true in
    let front : List ℕ = 0 ∷ 0 ∷ 6 ∷ n r ∷ [] in
    let base : List ℕ = 0 ∷ 0 ∷ 6 ∷ n r ∷ zeros 508 in
    (long, parts_more front (recordOf r) (wide r) base i from (from + wide r - from) block part refl size wides c.loop-i.invariant.1 made)

pub returns : goal.returns
returns c =
    let r = (goal.at.returns c).After-records_at-n in
    let all : c.loop-i.i ≡ n r = omega arith in
    c.loop-i.invariant.1
    ∙ (λ j. madeTo (image r) (sym (o_is (v r)) j) (k r) (wide_is r j) (n_is r j) ((all ∙ n_is r) j))
    ∙ block_made (v r) (k r) c.requires.o_bound.0 c.requires.o_bound.1
