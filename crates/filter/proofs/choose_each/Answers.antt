-- `filter::choose_each` meets its contract: of the lexicons that are passed the list has just the entries that lead on, and those of a later lexicon come after them.
use Prim.Native.Nat.{ℕ, ◌+◌, ◌*◌, ◌-◌, ◌%◌, ◌<◌, ◌≤◌, ◌^◌}
use native.Mathlib.Omega.{arith}
use mathlib.Core.Path.{◌≡◌, refl, sym, ap, ◌∙◌, subst}
use mathlib.Core.List.{List, ◌++◌}
use lib.ListN.{length, take, drop}
use lib.Pow.{pow_pos, pow-lt, shl_exact}
use lib.Dec.{lit<}
use borrow.Rule.Slice.PartMut.{put_mid, same_len_mid}
use Rattle.model.specs.Blocks.{Header, header}
use Rattle.model.specs.Refusals.{right_entries}
use Rattle.model.proofs.Booleans.{of_true}
use Rattle.image.specs.Header.{header_of}
use Rattle.lexicon.proofs.Laws.{lexicon_within}
use Rattle.listing.specs.Opening.{Known}
use Rattle.forms.specs.Forms.{flags_in}
use Rattle.digits.proofs.Bits.{digit_most}
use Rattle.filter.specs.Survivors.{Surviving}
use Rattle.filter.proofs.Choosing.{Choosing, choosing_none, choosing_more, choosing_all, room_size, take_put}
use Rattle.filter.proofs.choose_each.Goals as goal
use Rattle.filter.proofs.choose_each.Goals.{After-lowest-x, In_ok-many}

-- one position
one_at : (i : ℕ) → i ≤ 32 → (1 * 2 ^ i) % 2 ^ 64 ≡ 2 ^ i
one_at i h = shl_exact {a = 1} 1 i 64 (lit< tt) (omega arith) ∙ omega arith

-- a turn: the lowest lexicon that is left
module _ (c : After-lowest-x) where
  abbrev x : ℕ
  x = c.lowest-x.result

  inside : x < c.args.h.lexicons
  inside = c.requires.known.0 x (c.loop-rest.invariant.1.1.above x c.lowest-x.ensures.0.there).1

  known : Known c.args.bits (header c.args.image.now).lexicons
  known = subst (λ (g : Header). Known c.args.bits g.lexicons) c.requires.accepted.laid.header_is c.requires.known.0

  abbrev room : ℕ
  room = length (take (length c.loop-rest.list - c.loop-rest.n) (drop c.loop-rest.n c.loop-rest.list))

  room_is : room ≡ length c.args.list.now - c.loop-rest.n
  room_is =
      let n = c.loop-rest.n in
      room_size n c.loop-rest.list (omega (arith, c.loop-rest.invariant.0, c.loop-rest.invariant.1.0)) ∙ ap (λ (m : ℕ). m - n) c.loop-rest.invariant.0

pub overflow_shl-first : goal.overflow_shl-first
overflow_shl-first c = omega (arith, c.requires.known.1.0)

pub spread-start-requires : goal.spread-start-requires
spread-start-requires c =
    let few = c.requires.known.1.0 in
    (c.requires.filled.0.letters_in 0, subst (λ (m : ℕ). m < 2 ^ 33) (sym (one_at c.args.letters few)) (pow-lt {i = c.args.letters} {j = 33} (omega (arith, few))))

pub loop-rest-init : goal.loop-rest-init
loop-rest-init c = let a = c.args in (refl, (omega arith, choosing_none a.image.now a.masks.now (flags_in a.forms.now) a.reach.now (2 ^ a.letters) a.bits))

pub without-rest-requires : goal.without-rest-requires
without-rest-requires c = (c.lowest-x.ensures.0.there, c.lowest-x.ensures.1)

pub lexicon_range-range-requires : goal.lexicon_range-range-requires
lexicon_range-range-requires c =
    record { accepted = c.requires.accepted; index_value = c.requires.index_value; x_lt_lexicons = inside (goal.at.lexicon_range-range-requires c).After-lowest-x }

-- its entries are few enough to count
pub is_sole-requires : goal.is_sole-requires
is_sole-requires c =
    let laid = c.requires.accepted.laid in
    let image = c.args.image.now in
    let turn = (goal.at.is_sole-requires c).After-lowest-x in
    let all = lexicon_within image (header_of c.args.h) laid (of_true (right_entries image) c.requires.accepted.entries_right) (x turn) (inside turn) in
    omega (arith, c.lexicon_range-range.ensures.0, all, laid.limits.entries_most)

pub among-requires : goal.among-requires
among-requires c =
    let turn = (goal.at.among-requires c).After-lowest-x in
    let same = ap (λ (g : Header). g.lexicons) c.requires.accepted.laid.header_is in
    record {
      accepted = c.requires.accepted;
      forms_of = c.requires.forms_of;
      filled = c.requires.filled;
      by_index = (x turn, (omega (arith, inside turn, same), c.lexicon_range-range.ensures));
      list_len_bound = omega (arith, room_is turn, c.requires.known.1.1);
      start_value = c.spread-start.ensures;
    }

-- the lexicon's survivors are put behind those of the lexicons before it
module _ (c : In_ok-many) where
  abbrev turn : After-lowest-x
  turn = (goal.at.overflow_add-n c).After-lowest-x

  abbrev n : ℕ
  n = c.loop-rest.n

  abbrev many : ℕ
  many = c.in_ok-many.many

  abbrev list : List ℕ
  list = c.loop-rest.list

  abbrev part : List ℕ
  part = c.among.new.list

  abbrev whole : List ℕ
  whole = put_mid n (length list - n) list part

  long : length whole ≡ length c.args.list.now
  long = same_len_mid n (length list - n) list part c.among.auto.list ∙ c.loop-rest.invariant.0

  fits : many ≤ length part
  fits = omega (arith, c.in_ok-many.ensures.0, c.among.auto.list)

  within : n + many ≤ length c.args.list.now
  within = omega (arith, fits, c.among.auto.list, room_is turn, c.loop-rest.invariant.1.0)

  both : take (n + many) whole ≡ take n list ++ take many part
  both = take_put n (length list - n) many list part (omega (arith, c.loop-rest.invariant.0, c.loop-rest.invariant.1.0)) fits

  abbrev Chosen : ℕ → List ℕ → Type 0
  Chosen rest xs = let a = c.args in Choosing a.image.now a.masks.now (flags_in a.forms.now) a.reach.now (2 ^ a.letters) a.bits rest xs

  abbrev Left : ℕ → Type 0
  Left first =
      let a = c.args in
      let range = c.lexicon_range-range.result in
      Surviving a.image.now a.masks.now (flags_in a.forms.now) a.reach.now first range.low range.high (take many part)

  grown : Chosen (c.loop-rest.rest - 2 ^ c.lowest-x.result) (take n list ++ take many part)
  grown =
      let a = c.args in
      let range = c.lexicon_range-range in
      let left : Left (2 ^ a.letters) = subst Left (one_at a.letters c.requires.known.1.0) c.in_ok-many.ensures.1 in
      choosing_more a.image.now a.masks.now (flags_in a.forms.now) a.reach.now (2 ^ a.letters) a.bits c.loop-rest.rest (take n list) c.loop-rest.invariant.1.1
      (known turn) c.lowest-x.result c.lowest-x.ensures.0 range.result.low range.result.high range.ensures.0 range.ensures.1 (take many part) left

  next : Chosen c.without-rest.result (take (n + many) whole)
  next =
      let parts = take n list ++ take many part in
      subst (Chosen c.without-rest.result) (sym both) (subst (λ (rest : ℕ). Chosen rest parts) (sym c.without-rest.ensures) grown)

pub overflow_add-n : goal.overflow_add-n
overflow_add-n c = omega (arith, within c, c.requires.known.1.1)

pub loop-rest-smaller : goal.loop-rest-smaller
loop-rest-smaller c =
    let lowest = c.lowest-x in
    omega (arith, c.without-rest.ensures, digit_most c.loop-rest.rest lowest.result lowest.ensures.0.there, pow_pos lowest.result)

pub loop-rest-preserved : goal.loop-rest-preserved
loop-rest-preserved c = (long c, (within c, next c))

pub returns : goal.returns
returns c =
    let a = c.args in
    let all = choosing_all a.image.now a.masks.now (flags_in a.forms.now) a.reach.now (2 ^ a.letters) (header_of a.h) c.requires.accepted a.bits c.loop-rest.rest in
    (c.loop-rest.invariant.1.0, all (take c.loop-rest.n c.loop-rest.list) c.loop-rest.invariant.1.1 c.loop-rest-test.false)
