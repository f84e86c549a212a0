-- Records of a laid image: each lies inside it, and a byte of a record is that byte of the image.
use Prim.Native.Nat.{ℕ, zero, suc, ◌+◌, ◌*◌, ◌-◌, ◌/◌, ◌%◌, ◌<◌, ◌≤◌}
use native.Mathlib.Nat.{le_refl, mul_comm, mul_assoc, mul-add, add-mul, div-add-mod', mul-suc, mul-le-mul, mod-lt, mod-eq_of_lt, div-eq_of_lt, mul-div-le, le-div_iff_mul-le, div-lt_iff_lt-mul, div_self, mod_self, add-mul-div_right, add-mul-mod_self_right}
use native.Mathlib.Omega.{arith}
use mathlib.Core.Bool.{Bool, true, false, ◌&&◌, cond}
use mathlib.Core.Path.{◌≡◌, refl, sym, ap, ◌∙◌}
use mathlib.Core.List.{List, [], ◌∷◌, map}
use lib.ListN.{length, get_or, take, drop, length-take, length-drop}
use lib.Seq.{get_or-take, get_or-drop}
use lib.Dec.{eqb}
use Rattle.model.specs.Lists.{sum, byte}
use Rattle.model.specs.Blocks.{Header, Kind, fitting, filled, entry_width, kinds, row_of, blocks_before, in_all, record_width, per_block, first_block, record_start, block_total, record_at}
use Rattle.image.specs.Laid.{Counted, Limited, Laid}
use Rattle.image.specs.declared.kinds.Kind.TheVariants as kind
use Rattle.image.specs.declared.kinds.Kind as code
use Rattle.image.specs.Kinds.{IsKind, kind_number, place_of}

-- a row whose records have room in its blocks
pub record Fitted (r : Kind) : Type 0 where
  pub wide : 1 ≤ r.width
  pub narrow : r.width ≤ 506
  pub filled : r.in_all ≤ r.blocks * fitting r.width

abbrev AllFitted : List Kind → Type 0
AllFitted [] = Unit {0}
AllFitted (r ∷ rs) = Fitted r × AllFitted rs

-- as many of a width as fit stand in a block's 506 bytes for records
pub some_fit : (width : ℕ) → 1 ≤ width → width ≤ 506 → 1 ≤ fitting width
some_fit width wide narrow = (le-div_iff_mul-le {k = width} {x = 1} {y = 506} wide).1 (omega arith)

pub fit_most : (width : ℕ) → width * fitting width ≤ 506
fit_most width = mul-div-le 506 width

-- blocks "rounded up" have room
filled_fitted : (kind width n : ℕ) → 1 ≤ width → width ≤ 506 → Fitted (filled kind width n)
filled_fitted kind width n wide narrow = record { wide = wide; narrow = narrow; filled = room (fitting width) (some_fit width wide narrow) }
  where
    room : (m : ℕ) → 1 ≤ m → n ≤ (n + (m - 1)) / m * m
    room m some = omega (arith, div-add-mod' (n + (m - 1)) m, mod-lt (n + (m - 1)) {m = m} some)

pub entry_wide : (form : ℕ) → (16 ≤ entry_width form) × (entry_width form ≤ 24)
entry_wide form = go (eqb form 2)
  where
    go : (b : Bool) → (16 ≤ cond b 24 16) × (cond b 24 16 ≤ 24)
    go true = (omega arith, omega arith)
    go false = (omega arith, omega arith)

-- the limits give every row that room
kinds_fitted : (h : Header) → Limited h → AllFitted (kinds h)
unfolding kinds
kinds_fitted h l =
    let one : Fitted (row_of 1 (kinds h)) = record { wide = omega arith; narrow = omega arith; filled = omega arith } in
    let two : Fitted (row_of 2 (kinds h)) = record { wide = omega arith; narrow = omega arith; filled = omega arith } in
    let three : Fitted (row_of 3 (kinds h)) = record { wide = omega arith; narrow = omega arith; filled = omega arith } in
    let four : Fitted (row_of 4 (kinds h)) = record { wide = omega arith; narrow = omega arith; filled = omega arith } in
    let five : Fitted (row_of 5 (kinds h)) = record { wide = omega arith; narrow = omega arith; filled = omega arith } in
    let six : Fitted (row_of 6 (kinds h)) = filled_fitted 6 (entry_width h.form) h.entries (omega (arith, entry_wide h.form)) (omega (arith, entry_wide h.form)) in
    let seven : Fitted (row_of 7 (kinds h)) = filled_fitted 7 16 h.sets (omega arith) (omega arith) in
    (one, (two, (three, (seven, (four, (five, (six, tt)))))))

-- "1 to 128 blocks"
pub total_most : (h : Header) → Limited h → block_total h ≤ 128
total_most h l = l.blocks_most

pub counted : (h : Header) → Limited h → Counted h
counted h l = record {
  letters_least = l.letters_least;
  letters_most = l.letters_most;
  pairs_least = l.pairs_least;
  pairs_most = l.pairs_most;
  rules_most = l.rules_most;
  lexicons_least = l.lexicons_least;
  lexicons_most = l.lexicons_most;
  entries_least = l.entries_least;
  entries_most = l.entries_most;
  sets_most = l.sets_most;
}

-- the row of a kind that has a record
module _ (kind : ℕ) where
  row_fitted : (rs : List Kind) → AllFitted rs → 1 ≤ (row_of kind rs).in_all → Fitted (row_of kind rs)
  row_fitted [] f some = absurd (omega arith)
  row_fitted (r ∷ rs) f some = go (eqb r.kind kind) (row_fitted rs f.1) some
    where
      go : (b : Bool) → (1 ≤ (row_of kind rs).in_all → Fitted (row_of kind rs)) → 1 ≤ (cond b r (row_of kind rs)).in_all → Fitted (cond b r (row_of kind rs))
      go true rest some = f.0
      go false rest some = rest some

  -- its blocks stand among all
  row_among : (rs : List Kind) (n : ℕ) → 1 ≤ (row_of kind rs).in_all → blocks_before kind n rs + (row_of kind rs).blocks ≤ n + sum (map (λ r. r.blocks) rs)
  row_among [] n some = absurd (omega arith)
  row_among (r ∷ rs) n some = go (eqb r.kind kind) (row_among rs (n + r.blocks)) some
    where
      go : (b : Bool) → (1 ≤ (row_of kind rs).in_all → blocks_before kind (n + r.blocks) rs + (row_of kind rs).blocks ≤ n + r.blocks + sum (map (λ r. r.blocks) rs))
          → 1 ≤ (cond b r (row_of kind rs)).in_all → cond b n (blocks_before kind (n + r.blocks) rs) + (cond b r (row_of kind rs)).blocks ≤ n + (r.blocks + sum (map (λ r. r.blocks) rs))
      go true rest some = omega arith
      go false rest some = omega (arith, rest some)

in_block : (width i : ℕ) → 1 ≤ width → width ≤ 506 → width * (i % fitting width) + width ≤ 506
in_block width i wide narrow =
    omega (
      arith,
      mul-le-mul {n₁ = width} {m₁ = suc (i % fitting width)} {n₂ = width} {m₂ = fitting width} (le_refl width) (mod-lt i {m = fitting width} (some_fit width wide narrow)),
      mul-suc width (i % fitting width),
      fit_most width,
    )

-- where record i of a width begins, without a remainder: after all the bytes of the records before it, and after what lies between a block's records and the
-- next one's, once for each block that they fill
start_sum : (first width i : ℕ) → 1 ≤ width → width ≤ 506 → 512 * first + 4 + width * i + (512 - width * fitting width) * (i / fitting width) ≡ 512 * (first + i / fitting width) + (4 + width * (i % fitting width))
start_sum first width i wide narrow =
    let m = fitting width in
    let q = i / m in
    let all : width * i ≡ width * m * q + width * (i % m) =
    ap (λ (n : ℕ). width * n) (sym (div-add-mod' i m)) ∙ mul-add width (q * m) (i % m) ∙ ap (λ (n : ℕ). n + width * (i % m)) (ap (λ (n : ℕ). width * n) (mul_comm q m) ∙ sym (mul_assoc width m q)) in
    let fits : 512 - width * m + width * m ≡ 512 = omega (arith, fit_most width) in
    let both : (512 - width * m) * q + width * m * q ≡ 512 * q = sym (add-mul (512 - width * m) (width * m) q) ∙ ap (λ (n : ℕ). n * q) fits in
    omega arith

-- record i of a kind, by the limits alone
module _ (h : Header) (limits : Limited h) (kind i : ℕ) (there : i < in_all h kind) where
  pub kind_fitted : Fitted (row_of kind (kinds h))
  kind_fitted = row_fitted kind (kinds h) (kinds_fitted h limits) (omega arith)

  -- where it begins, by what a table tells of its kind
  pub start_by : {first wide most : ℕ} → first ≡ first_block h kind → wide ≡ record_width h kind → most ≡ per_block h kind → 512 * first + 4 + wide * i + (512 - wide * most) * (i / most) ≡ record_start h kind i
  unfolding record_start
  start_by e1 e2 e3 = let f = kind_fitted in rw (e1, e2, e3) (start_sum (first_block h kind) (record_width h kind) i f.wide f.narrow)

  -- it has one of the places of a block
  pub record_slot : i % per_block h kind < per_block h kind
  record_slot = let f = kind_fitted in mod-lt i {m = per_block h kind} (some_fit (record_width h kind) f.wide f.narrow)

  -- its block is one of those of its kind, and those are among all
  pub record_block : first_block h kind + i / per_block h kind < block_total h
  unfolding block_total
  record_block =
      let f = kind_fitted in
      let p = some_fit (record_width h kind) f.wide f.narrow in
      omega (arith, row_among kind (kinds h) 0 (omega arith), (div-lt_iff_lt-mul {k = per_block h kind} {x = i} {y = (row_of kind (kinds h)).blocks} p).1 (omega arith))

  -- and it ends before that block's check
  pub record_before : 4 + record_width h kind * (i % per_block h kind) + record_width h kind ≤ 510
  record_before = let f = kind_fitted in omega (arith, in_block (record_width h kind) i f.wide f.narrow)

  pub record_end : record_start h kind i + record_width h kind ≤ 512 * block_total h
  unfolding record_start
  record_end = omega (arith, record_block, record_before)

-- quotient and remainder of i + 1 by those of i
module _ (i m : ℕ) (some : 1 ≤ m) where
  one_more : i + 1 ≡ i % m + 1 + i / m * m
  one_more = omega (arith, div-add-mod' i m)

  more_div : (i + 1) / m ≡ (i % m + 1) / m + i / m
  more_div = ap (λ (n : ℕ). n / m) one_more ∙ add-mul-div_right (i % m + 1) (i / m) some

  more_mod : (i + 1) % m ≡ (i % m + 1) % m
  more_mod = ap (λ (n : ℕ). n % m) one_more ∙ add-mul-mod_self_right (i % m + 1) (i / m) m

-- where record i + 1 begins, and at which place of its block: a width after record i, and where that is its block's last, after what lies between that block's
-- records and the next one's besides
module _ (h : Header) (kind i : ℕ) where
  abbrev next_begins : ℕ → ℕ → Type 0
  next_begins gap slot = (record_start h kind (i + 1) ≡ record_start h kind i + record_width h kind + gap) × ((i + 1) % per_block h kind ≡ slot)

  pub next_within : i % per_block h kind + 1 < per_block h kind → next_begins 0 (i % per_block h kind + 1)
  unfolding record_start
  next_within less =
      let m = per_block h kind in
      let q : (i + 1) / m ≡ i / m = omega (arith, more_div i m (omega arith), div-eq_of_lt {n = i % m + 1} {m = m} less) in
      let r : (i + 1) % m ≡ i % m + 1 = more_mod i m (omega arith) ∙ mod-eq_of_lt {n = i % m + 1} {m = m} less in
      (rw (q, r) (omega (arith, mul-add (record_width h kind) (i % m) 1)), r)

  pub next_block : i % per_block h kind + 1 ≡ per_block h kind → next_begins (512 - record_width h kind * per_block h kind) 0
  unfolding record_start
  next_block last =
      let m = per_block h kind in
      let some : 1 ≤ m = omega arith in
      let q : (i + 1) / m ≡ i / m + 1 = omega (arith, more_div i m some, ap (λ (n : ℕ). n / m) last, div_self {n = m} some) in
      let r : (i + 1) % m ≡ 0 = more_mod i m some ∙ ap (λ (n : ℕ). n % m) last ∙ mod_self m in
      (rw (q, r) (omega (arith, mul-add (record_width h kind) (i % m) 1, ap (λ (n : ℕ). record_width h kind * n) last, fit_most (record_width h kind))), r)

-- record i of a kind whose records all stand in its first block
pub record_first : (h : Header) (kind i : ℕ) → i < per_block h kind → record_start h kind i ≡ 512 * first_block h kind + (4 + record_width h kind * i)
unfolding record_start
record_first h kind i few = rw (div-eq_of_lt {n = i} {m = per_block h kind} few, mod-eq_of_lt {n = i} {m = per_block h kind} few) (omega arith)

module _ {image : List ℕ} {h : Header} (laid : Laid image h) (kind i : ℕ) where
  -- a record lies inside the image
  pub record_inside : (j : ℕ) → i < in_all h kind → j < record_width h kind → record_start h kind i + j < length image
  record_inside j there k = omega (arith, laid.whole, record_end h laid.limits kind i there)

  -- it is that part of the image
  pub record_part : record_at image kind i ≡ take (record_width h kind) (drop (record_start h kind i) image)
  unfolding record_at
  record_part = ap (λ (g : Header). take (record_width g kind) (drop (record_start g kind i) image)) (sym laid.header_is)

  pub record_length : i < in_all h kind → length (record_at image kind i) ≡ record_width h kind
  record_length there =
      ap length record_part
      ∙ omega (arith, length-take (record_width h kind) (drop (record_start h kind i) image), length-drop (record_start h kind i) image, laid.whole, record_end h laid.limits kind i there)

  -- a byte of a record is that byte of the image
  pub record_byte : (j : ℕ) → j < record_width h kind → byte (record_at image kind i) j ≡ byte image (record_start h kind i + j)
  record_byte j k = ap (λ (l : List ℕ). byte l j) record_part ∙ get_or-take (record_width h kind) (drop (record_start h kind i) image) j 0 k ∙ get_or-drop (record_start h kind i) image j 0

-- every kind has a place in the tables of the code
pub known : (k : code.Kind) → IsKind (kind_number k)
known kind.Header = (omega arith, omega arith)
known kind.Letters = (omega arith, omega arith)
known kind.Pairs = (omega arith, omega arith)
known kind.Tables = (omega arith, omega arith)
known kind.Lexicons = (omega arith, omega arith)
known kind.Entries = (omega arith, omega arith)
known kind.Sets = (omega arith, omega arith)

-- a table with a place for each kind, read by kind; place 0 is no kind's
pub by_kind : (f : ℕ → ℕ) (none kind : ℕ) → IsKind kind → get_or (none ∷ f 1 ∷ f 2 ∷ f 3 ∷ f 4 ∷ f 5 ∷ f 6 ∷ f 7 ∷ []) kind 0 ≡ f kind
by_kind f none zero is = absurd (omega arith)
by_kind f none (suc zero) is = refl
by_kind f none (suc (suc zero)) is = refl
by_kind f none (suc (suc (suc zero))) is = refl
by_kind f none (suc (suc (suc (suc zero)))) is = refl
by_kind f none (suc (suc (suc (suc (suc zero))))) is = refl
by_kind f none (suc (suc (suc (suc (suc (suc zero)))))) is = refl
by_kind f none (suc (suc (suc (suc (suc (suc (suc zero))))))) is = refl
by_kind f none (suc (suc (suc (suc (suc (suc (suc (suc n)))))))) is = absurd (omega arith)

-- a table with a place more, for the entries of form 2
pub by_form : (two : Bool) (none a b c d e f g other kind : ℕ) → IsKind kind
    → get_or (none ∷ a ∷ b ∷ c ∷ d ∷ e ∷ f ∷ g ∷ other ∷ []) (cond (two && eqb kind 6) 8 kind) 0
    ≡ get_or (none ∷ a ∷ b ∷ c ∷ d ∷ e ∷ cond two other f ∷ g ∷ []) kind 0
by_form two none a b c d e f g other zero is = absurd (omega arith)
by_form true none a b c d e f g other (suc zero) is = refl
by_form true none a b c d e f g other (suc (suc zero)) is = refl
by_form true none a b c d e f g other (suc (suc (suc zero))) is = refl
by_form true none a b c d e f g other (suc (suc (suc (suc zero)))) is = refl
by_form true none a b c d e f g other (suc (suc (suc (suc (suc zero))))) is = refl
by_form true none a b c d e f g other (suc (suc (suc (suc (suc (suc zero)))))) is = refl
by_form true none a b c d e f g other (suc (suc (suc (suc (suc (suc (suc zero))))))) is = refl
by_form false none a b c d e f g other (suc zero) is = refl
by_form false none a b c d e f g other (suc (suc zero)) is = refl
by_form false none a b c d e f g other (suc (suc (suc zero))) is = refl
by_form false none a b c d e f g other (suc (suc (suc (suc zero)))) is = refl
by_form false none a b c d e f g other (suc (suc (suc (suc (suc zero))))) is = refl
by_form false none a b c d e f g other (suc (suc (suc (suc (suc (suc zero)))))) is = refl
by_form false none a b c d e f g other (suc (suc (suc (suc (suc (suc (suc zero))))))) is = refl
by_form two none a b c d e f g other (suc (suc (suc (suc (suc (suc (suc (suc n)))))))) is = absurd (omega arith)

-- the two tables of the code, by the place of a kind
pub width_at : (h : Header) (kind : ℕ) → IsKind kind → get_or (0 ∷ 14 ∷ 2 ∷ 2 ∷ 506 ∷ 2 ∷ 16 ∷ 16 ∷ 24 ∷ []) (place_of h.form kind) 0 ≡ record_width h kind
unfolding kinds
width_at h kind is = by_form (eqb h.form 2) 0 14 2 2 506 2 16 16 24 kind is ∙ by_kind (record_width h) 0 kind is

pub per_block_at : (h : Header) (kind : ℕ) → IsKind kind → get_or (0 ∷ 36 ∷ 253 ∷ 253 ∷ 1 ∷ 253 ∷ 31 ∷ 31 ∷ 21 ∷ []) (place_of h.form kind) 0 ≡ per_block h kind
unfolding kinds
per_block_at h kind is =
    by_form (eqb h.form 2) 0 36 253 253 1 253 31 31 21 kind is
    ∙ ap (λ (n : ℕ). get_or (0 ∷ 36 ∷ 253 ∷ 253 ∷ 1 ∷ 253 ∷ n ∷ 31 ∷ []) kind 0) (sym (fitting_by (eqb h.form 2)))
    ∙ by_kind (per_block h) 0 kind is
  where
    fitting_by : (two : Bool) → 506 / cond two 24 16 ≡ cond two 21 31
    fitting_by true = refl
    fitting_by false = refl
