-- An image that passes tests 1 to 3 is what its own counts and records build: they are all that it says.
use Prim.Native.Nat.{ℕ, suc, ◌+◌, ◌*◌, ◌-◌, ◌/◌, ◌%◌, ◌<◌, ◌≤◌}
use native.Mathlib.Nat.{le_refl, mul-le-mul, mul-suc, add-mul-div_left, div-eq_of_lt, mod-eq_of_lt, add-mul-mod_self_left}
use native.Mathlib.Omega.{arith}
use mathlib.Core.Bool.{◌&&◌}
use mathlib.Core.Path.{◌≡◌, refl, sym, ap, ap₂, ◌∙◌}
use mathlib.Core.List.{List, [], ◌∷◌, ◌++◌, Memᴰ}
use lib.ListN.{length, take, drop, replicate, take-append-drop, length-drop}
use lib.Seq.{take_all, take-take, drop-drop, get_or-take, get_or-drop, length-take-le}
use lib.Dec.{T, eqb, eqb→eq}
use Rattle.model.specs.Lists.{below, every, flat_map, part, is_zero, within, byte, number, number_bytes}
use Rattle.model.specs.Blocks.{Header, header, block, block_count, block_number, block_check, block_kind, record_count, block_total}
use Rattle.model.specs.Blocks.{record_width, per_block, first_block, record_start, record_at, kind_at, records_at, laid_out, within_limits, weighted_sum, check_of, sealed_block}
use Rattle.model.specs.Refusals.{right_length, right_checks, right_layout}
use Rattle.model.proofs.Booleans.{and_out, out3, out4, true_of}
use Rattle.model.proofs.Lists.{below_has, below_from, drop_take, every_at}
use Rattle.model.proofs.Parts.{parts_join, flat_map_same}
use Rattle.model.proofs.Blocks.{block_byte}
use Rattle.model.proofs.Sealing.{right_few, right_some, block_whole}
use Rattle.image.specs.Laid.{Laid}
use Rattle.image.proofs.Records.{record_length}
use Rattle.layout.proofs.Laid.{laid}
use Rattle.built.specs.Built.{record_in, record_bytes, built_block, built, Sized}
use Rattle.built.proofs.Placed.{records_least, records_fit, block_among}
use Rattle.built.proofs.Built.{in_block, bytes_long, sealed_front, block_sealed_is, built_block_lem, built_long}

zeros_are : (l : List ℕ) → T (every is_zero l) → l ≡ replicate (length l) 0
zeros_are [] t = refl
zeros_are (x ∷ l) t =
    let u = and_out (is_zero x) (every is_zero l) t in
    let e = eqb→eq x 0 u.0 in
    let r = zeros_are l u.1 in
    cc

four_and : (l : List ℕ) → 4 ≤ length l → l ≡ byte l 0 ∷ byte l 1 ∷ byte l 2 ∷ byte l 3 ∷ drop 4 l
four_and [] h = absurd (omega arith)
four_and (a ∷ []) h = absurd (omega arith)
four_and (a ∷ b ∷ []) h = absurd (omega arith)
four_and (a ∷ b ∷ c ∷ []) h = absurd (omega arith)
four_and (a ∷ b ∷ c ∷ d ∷ l) h = refl

two_are : (l : List ℕ) → length l ≡ 2 → l ≡ byte l 0 ∷ byte l 1 ∷ []
two_are [] h = absurd (omega arith)
two_are (a ∷ []) h = absurd (omega arith)
two_are (a ∷ b ∷ []) h = refl
two_are (a ∷ b ∷ c ∷ l) h = absurd (omega arith)

-- a block of 512 bytes by its number, kind, count, records, unused bytes and check
module _ (b : List ℕ) (whole : length b ≡ 512) (k kind n m : ℕ) (k-few : k < 256) (fits : m ≤ 506) (small : (i : ℕ) → i < 512 → byte b i < 256) where
  front_is : number b 0 ≡ k → byte b 2 ≡ kind → byte b 3 ≡ n → T (every is_zero (drop (4 + m) (take 510 b)))
      → take 510 b ≡ k % 256 ∷ k / 256 % 256 ∷ kind ∷ n ∷ (take m (drop 4 b) ++ replicate (506 - m) 0)
  front_is e0 e2 e3 z =
      let f = take 510 b in
      let long : length f ≡ 510 = length-take-le 510 b (omega arith) in
      let x0 : byte f 0 ≡ k % 256 = get_or-take 510 b 0 0 (omega arith) ∙ omega (arith, small 0 (omega arith), small 1 (omega arith)) in
      let x1 : byte f 1 ≡ k / 256 % 256 = get_or-take 510 b 1 0 (omega arith) ∙ omega (arith, small 0 (omega arith), small 1 (omega arith)) in
      let x2 : byte f 2 ≡ kind = get_or-take 510 b 2 0 (omega arith) ∙ e2 in
      let x3 : byte f 3 ≡ n = get_or-take 510 b 3 0 (omega arith) ∙ e3 in
      let r : take m (drop 4 f) ≡ take m (drop 4 b) = ap (take m) (drop_take 4 506 b) ∙ take-take m 506 (drop 4 b) fits in
      let left : length (drop (4 + m) f) ≡ 506 - m = omega (arith, length-drop (4 + m) f) in
      let u : drop m (drop 4 f) ≡ replicate (506 - m) 0 =
      drop-drop m 4 f ∙ zeros_are (drop (4 + m) f) z ∙ ap (λ (i : ℕ). replicate i 0) left in
      four_and f (omega arith)
      ∙ ap (λ (l : List ℕ). byte f 0 ∷ byte f 1 ∷ byte f 2 ∷ byte f 3 ∷ l) (sym (take-append-drop m (drop 4 f)) ∙ ap₂ (λ (x y : List ℕ). x ++ y) r u)
      ∙ rw (x0, x1, x2, x3) refl

  check_is : number b 510 ≡ check_of b → drop 510 b ≡ number_bytes (check_of (take 510 b))
  unfolding check_of
  check_is e =
      let c : check_of (take 510 b) ≡ check_of b = ap (λ (l : List ℕ). (1 + weighted_sum 0 l) % 65521) (take-take 510 510 b (omega arith)) in
      let d0 : byte (drop 510 b) 0 ≡ byte b 510 = get_or-drop 510 b 0 0 in
      let d1 : byte (drop 510 b) 1 ≡ byte b 511 = get_or-drop 510 b 1 0 in
      let n : check_of (take 510 b) ≡ byte b 510 + 256 * byte b 511 = c ∙ sym e in
      two_are (drop 510 b) (omega (arith, length-drop 510 b))
      ∙ ap₂ (λ (x y : ℕ). x ∷ y ∷ []) (d0 ∙ omega (arith, small 510 (omega arith), small 511 (omega arith))) (d1 ∙ omega (arith, small 510 (omega arith), small 511 (omega arith)))

module _ (image : List ℕ) (small : (i : ℕ) → byte image i < 256) (one : T (right_length image)) (two : T (right_checks image)) (three : T (right_layout image)) where
  abbrev h : Header
  h = header image

  parts : T (within 1 2 h.form) × T (within_limits h) × T (eqb (block_count image) (block_total h)) × T (every (λ k. laid_out h k (block image k)) (below (block_count image)))
  unfolding right_layout
  parts = out4 (within 1 2 h.form) (within_limits h) (eqb (block_count image) (block_total h)) (every (λ k. laid_out h k (block image k)) (below (block_count image))) three

  total_is : block_count image ≡ block_total h
  total_is = eqb→eq (block_count image) (block_total h) parts.2

  is_laid : Laid image h
  is_laid = laid image (true_of (right_length image) one) (true_of (right_layout image) three)

  few : block_total h ≤ 128
  few = omega (arith, total_is, right_few image (true_of (right_length image) one))

  some : 1 ≤ block_total h
  some = omega (arith, total_is, right_some image (true_of (right_length image) one))

  sized : Sized h (record_at image)
  sized kind i there = record_length is_laid kind i there

  module _ (k : ℕ) (there : k < block_total h) where
    abbrev kind : ℕ
    kind = kind_at h k

    abbrev w : ℕ
    w = record_width h kind

    abbrev per : ℕ
    per = per_block h kind

    abbrev n : ℕ
    n = records_at h k

    abbrev b : List ℕ
    b = block image k

    counted : k < block_count image
    counted = omega (arith, total_is)

    starts : (i : ℕ) → i < n → record_start h kind (per * (k - first_block h kind) + i) ≡ 512 * k + (4 + w * i)
    unfolding record_start
    starts i l =
        let q = k - first_block h kind in
        let t : i < per = omega (arith, records_least h k) in
        let order : per * q + i ≡ i + per * q = omega arith in
        let d : (per * q + i) / per ≡ q = ap (λ (x : ℕ). x / per) order ∙ add-mul-div_left i q {y = per} (omega arith) ∙ omega (arith, div-eq_of_lt {n = i} {m = per} t) in
        let r : (per * q + i) % per ≡ i = ap (λ (x : ℕ). x % per) order ∙ add-mul-mod_self_left i per q ∙ mod-eq_of_lt {n = i} {m = per} t in
        let s : first_block h kind + q ≡ k = omega (arith, block_among h k there) in
        rw (d, r, s) refl

    record_is : (i : ℕ) → Memᴰ i (below n) → record_in h (record_at image) k i ≡ part w (drop 4 b) i
    unfolding record_in record_at
    record_is i m =
        let l = below_from n i m in
        ap (λ (x : ℕ). take w (drop x image)) (starts i l)
        ∙ in_block image k (4 + w * i) w (omega (arith, mul-le-mul {n₁ = w} {m₁ = suc i} {n₂ = w} {m₂ = n} (le_refl w) l, mul-suc w i, records_fit h k))
        ∙ ap (take w) (sym (drop-drop (w * i) 4 b))

    bytes_are : record_bytes h (record_at image) k ≡ take (w * n) (drop 4 b)
    unfolding record_bytes
    bytes_are = flat_map_same (record_in h (record_at image) k) (part w (drop 4 b)) (below n) record_is ∙ sym (parts_join w (drop 4 b) n)

    block_right : T (eqb (block_number b) k && eqb (block_check b) (check_of b))
    unfolding right_checks
    block_right = every_at (λ k. eqb (block_number (block image k)) k && eqb (block_check (block image k)) (check_of (block image k))) (below (block_count image))
        (below_has (block_count image) k counted) two

    block_laid : T (eqb (block_kind b) (kind_at h k)) × T (eqb (record_count b) (records_at h k)) × T (every is_zero (drop (4 + w * n) (take 510 b)))
    unfolding laid_out
    block_laid = out3 (eqb (block_kind b) (kind_at h k)) (eqb (record_count b) (records_at h k)) (every is_zero (drop (4 + w * n) (take 510 b)))
        (every_at (λ k. laid_out h k (block image k)) (below (block_count image)) (below_has (block_count image) k counted) parts.3)

    small_here : (i : ℕ) → i < 512 → byte b i < 256
    small_here i l = rw (block_byte image k i l) (small (512 * k + i))

    front_same : take 510 b ≡ sealed_front h (record_at image) few some sized k
    front_same =
        let u = and_out (eqb (block_number b) k) (eqb (block_check b) (check_of b)) block_right in
        front_is b (block_whole image one k counted) k kind n (w * n) (omega (arith, few)) (records_fit h k) small_here
        (eqb→eq (block_number b) k u.0) (eqb→eq (block_kind b) kind block_laid.0) (eqb→eq (record_count b) n block_laid.1) block_laid.2
        ∙ ap₂ (λ (x : List ℕ) (m : ℕ). k % 256 ∷ k / 256 % 256 ∷ kind ∷ n ∷ (x ++ replicate (506 - m) 0)) (sym bytes_are) (sym (bytes_long h (record_at image) few some sized k))

    block_same : b ≡ block (built h (record_at image)) k
    block_same =
        let u = and_out (eqb (block_number b) k) (eqb (block_check b) (check_of b)) block_right in
        sym (take-append-drop 510 b)
        ∙ ap₂ (λ (x y : List ℕ). x ++ y) front_same (check_is b (block_whole image one k counted) k kind n (w * n) (omega (arith, few)) (records_fit h k) small_here
        (eqb→eq (block_check b) (check_of b) u.1) ∙ ap (λ (l : List ℕ). number_bytes (check_of l)) front_same)
        ∙ sym (built_block_lem h (record_at image) few some sized k there)

    -- block by block: sealed, and from its records
    pub block_is : b ≡ sealed_block k (built_block h (record_at image) k)
    block_is = block_same ∙ built_block_lem h (record_at image) few some sized k there ∙ sym (block_sealed_is h (record_at image) few some sized k)

  whole_parts : (l : List ℕ) → length l ≡ 512 * block_total h → l ≡ flat_map (block l) (below (block_total h))
  unfolding block
  whole_parts l e = sym (take_all (512 * block_total h) l (omega arith)) ∙ parts_join 512 l (block_total h)

  pub rebuilt : image ≡ built h (record_at image)
  rebuilt =
      whole_parts image is_laid.whole
      ∙ flat_map_same (block image) (block (built h (record_at image))) (below (block_total h)) (λ k m. block_same k (below_from (block_total h) k m))
      ∙ sym (whole_parts (built h (record_at image)) (built_long h (record_at image) few some sized))
