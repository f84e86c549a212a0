-- `record_start` meets its contract: what it adds up is where the record begins, by the table's place for the entries of form 2 or for the kind, and nothing added
-- up is more than that.
use native.Mathlib.Omega.{arith}
use mathlib.Core.List.{[], ◌∷◌}
use mathlib.Core.Path.{◌≡◌, sym, ap, ap₂, ◌∙◌}
use Prim.Native.Nat.{ℕ, ◌+◌, ◌*◌, ◌-◌, ◌/◌, ◌<◌, ◌≤◌}
use lib.ListN.{get_or}
use Rattle.model.specs.Blocks.{Header, in_all, record_width, per_block, first_block, record_start}
use Rattle.image.specs.Header.{header_of}
use Rattle.image.specs.Kinds.{IsKind, kind_number, place_of}
use Rattle.image.specs.Laid.{Limited}
use Rattle.image.proofs.Records.{known, total_most, counted, kind_fitted, some_fit, fit_most, start_by, record_block, record_before, width_at, per_block_at}
use Rattle.image.proofs.kinds.record_start.Goals as goal

module _ (h : Header) (kind : ℕ) where
  -- the place of the entries of form 2 says their width, and how many a block holds
  module _ (is : IsKind kind) (placed : 8 ≡ place_of h.form kind) where
    wide_is : 24 ≡ record_width h kind
    wide_is = ap (λ (n : ℕ). get_or (0 ∷ 14 ∷ 2 ∷ 2 ∷ 506 ∷ 2 ∷ 16 ∷ 16 ∷ 24 ∷ []) n 0) placed ∙ width_at h kind is

    most_is : 21 ≡ per_block h kind
    most_is = ap (λ (n : ℕ). get_or (0 ∷ 36 ∷ 253 ∷ 253 ∷ 1 ∷ 253 ∷ 31 ∷ 31 ∷ 21 ∷ []) n 0) placed ∙ per_block_at h kind is

  -- what is added up, by what is told of the kind
  module _ (l : Limited h) (i : ℕ) (there : i < in_all h kind) {first wide most : ℕ} (e1 : first ≡ first_block h kind) (e2 : wide ≡ record_width h kind) (e3 : most ≡ per_block h kind) where
    sum_is : 512 * first + 4 + wide * i + (512 - wide * most) * (i / most) ≡ record_start h kind i
    sum_is = start_by h l kind i there e1 e2 e3

    small : record_start h kind i < 65536
    unfolding record_start
    small = omega (arith, record_block h l kind i there, total_most h l, record_before h l kind i there)

    -- the records of a block have room in it
    room : wide * most ≤ 506
    room = omega (arith, ap₂ (λ (a b : ℕ). a * b) e2 e3, fit_most (record_width h kind))

    some : 1 ≤ most
    some = let f = kind_fitted h l kind i there in omega (arith, some_fit (record_width h kind) f.wide f.narrow, e3)

    bound : 512 * first + 4 + wide * i + (512 - wide * most) * (i / most) < 65536
    bound = omega (arith, sum_is, small)

    is_start : {n : ℕ} → n ≡ 512 * first + 4 + wide * i + (512 - wide * most) * (i / most) → (n ≡ record_start h kind i) × (n < 65536)
    is_start e = (e ∙ sum_is, omega (arith, e, bound))

pub first_block-first-requires : goal.first_block-first-requires
first_block-first-requires c = counted (header_of c.args.h) c.requires.limited

pub added-requires : goal.added-requires
added-requires c =
    let h = header_of c.args.h in
    let kind = kind_number c.args.kind in
    let placed = sym c.if-place_of-eq8.true ∙ c.place_of.ensures.0 in
    let first = c.first_block-first.ensures in
    let wide = wide_is h kind (known c.args.kind) placed in
    let most = most_is h kind (known c.args.kind) placed in
    record {
      le_most = (some h kind c.requires.limited c.args.i c.requires.i_bound first wide most, room h kind c.requires.limited c.args.i c.requires.i_bound first wide most);
      most_bound = bound h kind c.requires.limited c.args.i c.requires.i_bound first wide most;
    }

pub returns-then-place_of-eq8 : goal.returns-then-place_of-eq8
returns-then-place_of-eq8 c =
    let h = header_of c.args.h in
    let kind = kind_number c.args.kind in
    let placed = sym c.if-place_of-eq8.true ∙ c.place_of.ensures.0 in
    is_start h kind c.requires.limited c.args.i c.requires.i_bound c.first_block-first.ensures (wide_is h kind (known c.args.kind) placed) (most_is h kind (known c.args.kind) placed) c.added.ensures

pub added-requires-2 : goal.added-requires-2
added-requires-2 c =
    let h = header_of c.args.h in
    let kind = kind_number c.args.kind in
    let first = c.first_block-first.ensures in
    let wide = c.width.ensures in
    let most = c.per_block.ensures in
    record {
      le_most = (some h kind c.requires.limited c.args.i c.requires.i_bound first wide most, room h kind c.requires.limited c.args.i c.requires.i_bound first wide most);
      most_bound = bound h kind c.requires.limited c.args.i c.requires.i_bound first wide most;
    }

pub returns : goal.returns
returns c =
    is_start (header_of c.args.h) (kind_number c.args.kind) c.requires.limited c.args.i c.requires.i_bound c.first_block-first.ensures c.width.ensures c.per_block.ensures c.added-2.ensures
