-- Entries as bytes of the image, what test 8 leaves for those that follow, and how the lexicons tile the entries.
use Prim.Native.Nat.{ℕ, zero, suc, ◌+◌, ◌*◌, ◌/◌, ◌%◌, ◌<◌, ◌≤◌}
use native.Mathlib.Nat.{add_assoc}
use native.Mathlib.Numerals.{add-one}
use native.Mathlib.Omega.{arith}
use native.Mathlib.Decide.{dec_lt, dec_le}
use mathlib.Core.Bool.{Bool, true, false, ◌&&◌, ◌||◌, not, cond}
use mathlib.Core.Path.{◌≡◌, refl, sym, ap, ap₂, ◌∙◌, subst}
use mathlib.Core.List.{List, [], ◌∷◌, ◌++◌, map, Memᴰ}
use lib.ListN.{length, take, drop, length-take, length-drop}
use lib.Seq.{drop-drop, take-take, get_or-take, get_or-drop}
use lib.Dec.{T, leb, ltb, eqb, leb→le, le→leb, ltb→lt, lt→ltb, eqb→eq}
use borrow.Author.Tests.{le-leb, lt-leb}
use Rattle.model.specs.Lists.{below, every, any, sum, within, is_zero, byte, bit, number}
use Rattle.model.specs.Blocks.{Header, kinds, entry_width, record_width, first_block, record_start}
use Rattle.model.specs.RuleTables.{in_set}
use Rattle.model.specs.Lexicon.{may_stop, goes_to, right_ways, entry_count, first_entry, in_lexicon, entry, form_length, form_of, is_entry_of, is_entry}
use Rattle.model.specs.Refusals.{right_entries}
use Rattle.model.specs.Beside.{form_start}
use Rattle.model.proofs.Booleans.{and_out, and_in, out4, within_out}
use Rattle.model.proofs.Lists.{below_has, below_from, drop_take, every_at, every_same, map_below}
use Rattle.model.proofs.Rest.{every_get_d}
use Rattle.image.specs.Laid.{Laid}
use Rattle.image.proofs.Records.{record_block, record_before, record_inside, record_part, record_byte, record_first}

width_least : (form : ℕ) → 16 ≤ entry_width form
width_least form = go (eqb form 2)
  where
    go : (b : Bool) → 16 ≤ cond b 24 16
    go true = omega arith
    go false = omega arith

any_same : (f h : ℕ → Bool) (xs : List ℕ) → ((x : ℕ) → Memᴰ x xs → f x ≡ h x) → any f xs ≡ any h xs
any_same f h [] e = refl
any_same f h (x ∷ xs) e = ap₂ (λ (a b : Bool). a || b) (e x (Memᴰ.head refl)) (any_same f h xs (λ y m. e y (Memᴰ.tail m)))

-- an entry's length, letters and the byte after them are its first 14 bytes
pub entry_wide : (h : Header) → 14 ≤ record_width h 6
unfolding kinds
entry_wide h = omega (arith, width_least h.form)

-- the bytes of an entry that its form knows
pub width_is : (h : Header) → record_width h 6 ≡ entry_width h.form
unfolding kinds
width_is h = refl

-- a beginning of the bytes from 1 on, of a list and of one that is cut after it
form_cut : (l : List ℕ) (width n : ℕ) → 1 + n ≤ width → take n (drop 1 (take width l)) ≡ take n (drop 1 l)
form_cut l width n h = sym (drop_take 1 n (take width l)) ∙ ap (drop 1) (take-take (1 + n) width l h) ∙ drop_take 1 n l

-- what is asked of an entry is asked of those bytes
-- what it says of its ways on is in those bytes
pub set_cut : (l : List ℕ) (width x : ℕ) → x < 64 → 24 ≤ width → in_set (drop 16 (take width l)) x ≡ in_set (drop 16 l) x
unfolding in_set
set_cut l width x few wide =
    ap (λ (n : ℕ). bit n (x % 8)) (get_or-drop 16 (take width l) (x / 8) 0 ∙ get_or-take width l (16 + x / 8) 0 (omega arith) ∙ sym (get_or-drop 16 l (x / 8) 0))

module _ (l : List ℕ) (width : ℕ) where
  byte_cut : 14 ≤ width → byte (take width l) 13 ≡ byte l 13
  byte_cut wide = get_or-take width l 13 0 (omega arith)

  stop_cut : (form : ℕ) → 14 ≤ width → may_stop (take width l) form ≡ may_stop l form
  unfolding may_stop
  stop_cut form wide = ap (λ (n : ℕ). eqb n (cond (eqb form 2) 1 255)) (byte_cut wide)

  goes_cut : (x : ℕ) → x < 64 → 24 ≤ width → goes_to (take width l) 2 x ≡ goes_to l 2 x
  unfolding goes_to
  goes_cut x few wide = set_cut l width x few wide

  pub ways_cut : (form lexicons : ℕ) → entry_width form ≤ width → right_ways (take width l) form lexicons ≡ right_ways l form lexicons
  unfolding right_ways
  ways_cut form lexicons wide = go (eqb form 2) wide
    where
      -- the ways of form 2, and of either
      many_ways : List ℕ → Bool
      many_ways e = leb (byte e 13) 1 && every (λ x. ltb x lexicons || not (goes_to e 2 x)) (below 64) && (may_stop e 2 || any (goes_to e 2) (below 64))

      ways_by : Bool → List ℕ → Bool
      ways_by two e = cond two (many_ways e) (ltb (byte e 13) lexicons || eqb (byte e 13) 255)

      many : 24 ≤ width → many_ways (take width l) ≡ many_ways l
      many wide = λ i.
          leb (byte_cut (omega arith) i) 1
          && every_same (λ x. ltb x lexicons || not (goes_to (take width l) 2 x)) (λ x. ltb x lexicons || not (goes_to l 2 x)) (below 64)
          (λ x m. ap (λ (b : Bool). ltb x lexicons || not b) (goes_cut x (below_from 64 x m) wide)) i
          && (stop_cut 2 (omega arith) i || any_same (goes_to (take width l) 2) (goes_to l 2) (below 64) (λ x m. goes_cut x (below_from 64 x m) wide) i)

      go : (b : Bool) → cond b 24 16 ≤ width → ways_by b (take width l) ≡ ways_by b l
      go true wide = many wide
      go false wide = ap (λ (n : ℕ). ltb n lexicons || eqb n 255) (byte_cut (omega arith))

module _ (form : ℕ) (may : ℕ → Bool) (lexicons : ℕ) where
  pub entry_long : (l : List ℕ) → 12 < byte l 0 → is_entry_of l form may lexicons ≡ false
  unfolding is_entry_of
  entry_long l h = rw (lt-leb (form_length l) 12 h) refl

  pub entry_cut : (l : List ℕ) (width : ℕ) → entry_width form ≤ width → is_entry_of (take width l) form may lexicons ≡ is_entry_of l form may lexicons
  unfolding is_entry_of form_of
  entry_cut l width wide = go (dec_le (byte l 0) 12)
    where
      same : byte (take width l) 0 ≡ byte l 0
      same = get_or-take width l 0 0 (omega (arith, width_least form))

      go : Dec (byte l 0 ≤ 12) → is_entry_of (take width l) form may lexicons ≡ is_entry_of l form may lexicons
      go (yes h) =
          let n = byte l 0 in
          let letters = form_cut l width n (omega (arith, width_least form)) in
          rw (same, letters, take-take 13 width l (omega (arith, width_least form)), ways_cut l width form lexicons wide) refl
      go (no h) = entry_long (take width l) (omega (arith, same)) ∙ sym (entry_long l (omega arith))

  -- by the form length n that was read, of the bytes from `at` on
  module _ (image : List ℕ) (at : ℕ) where
    pub entry_there : (n : ℕ) → n ≡ byte image at → n ≤ 12
        → is_entry_of (drop at image) form may lexicons
        ≡ (every may (drop (at + 1) (take (at + (1 + n)) image))
        && every is_zero (drop (at + (1 + n)) (take (at + 13) image))
        && right_ways (drop at image) form lexicons)
    unfolding is_entry_of form_of
    entry_there n e h =
        let length_is : form_length (drop at image) ≡ n = length_there ∙ sym e in
        rw (length_is, form_between n, rest_there n, le-leb n 12 h) refl
      where
        form_between : (n : ℕ) → take n (drop 1 (drop at image)) ≡ drop (at + 1) (take (at + (1 + n)) image)
        form_between n = ap (take n) (drop-drop 1 at image) ∙ sym (drop_take (at + 1) n image) ∙ ap (λ (k : ℕ). drop (at + 1) (take k image)) (add_assoc at 1 n)

        rest_there : (n : ℕ) → drop (1 + n) (take 13 (drop at image)) ≡ drop (at + (1 + n)) (take (at + 13) image)
        rest_there n = ap (drop (1 + n)) (sym (drop_take at 13 image)) ∙ drop-drop (1 + n) at (take (at + 13) image)

        length_there : form_length (drop at image) ≡ byte image at
        length_there = get_or-drop at image 0 0 ∙ ap (byte image) (omega arith)

-- an image that passed tests 1 and 3
module _ (image : List ℕ) (h : Header) (laid : Laid image h) where
  -- a lexicon's entry count is the number where its record begins; its kind has one block
  pub count_start : (x : ℕ) → x < h.lexicons → record_start h 5 x ≡ 512 * first_block h 5 + (4 + record_width h 5 * x)
  unfolding kinds
  count_start x k = record_first h 5 x (omega (arith, laid.limits.lexicons_most))

  pub count_inside : (x : ℕ) → x < h.lexicons → record_start h 5 x + 1 < length image
  unfolding kinds
  count_inside x k = record_inside laid 5 x 1 k (omega arith)

  pub count_number : (x at : ℕ) → at ≡ record_start h 5 x → number image at ≡ entry_count image x
  unfolding kinds entry_count
  count_number x at e =
      ap (number image) e
      ∙ sym (ap₂ (λ (m n : ℕ). m + 256 * n) (record_byte laid 5 x 0 (omega arith) ∙ ap (byte image) (omega arith)) (record_byte laid 5 x 1 (omega arith)))

  -- those 14 bytes of an entry are bytes of the image
  pub entry_inside : (e j : ℕ) → e < h.entries → j < 14 → record_start h 6 e + j < length image
  unfolding kinds
  entry_inside e j l k = record_inside laid 6 e j l (omega (arith, width_least h.form))

  -- and after an entry come the check of its block or other entries
  pub entry_room : (e : ℕ) → e < h.entries → record_start h 6 e + entry_width h.form < length image
  unfolding kinds record_start
  entry_room e l = omega (arith, laid.whole, record_block h laid.limits 6 e l, record_before h laid.limits 6 e l)

  pub entry_byte : (e j : ℕ) → j < 14 → byte (entry image e) j ≡ byte image (record_start h 6 e + j)
  entry_byte e j k = record_byte laid 6 e j (omega (arith, entry_wide h))

  -- an entry's form as it stands in the image
  form_start_lem : (e : ℕ) → record_start h 6 e + 1 ≡ form_start image e
  unfolding form_start
  form_start_lem e = ap (λ (g : Header). record_start g 6 e + 1) laid.header_is

  pub form_part : (e : ℕ) → form_length (entry image e) ≤ 12 → form_of (entry image e) ≡ take (form_length (entry image e)) (drop (form_start image e) image)
  unfolding form_of
  form_part e k =
      let n = form_length (entry image e) in
      ap (λ (l : List ℕ). take n (drop 1 l)) (record_part laid 6 e)
      ∙ form_cut (drop (record_start h 6 e) image) (record_width h 6) n (omega (arith, entry_wide h))
      ∙ ap (take n) (drop-drop 1 (record_start h 6 e) image ∙ ap (λ (m : ℕ). drop m image) (form_start_lem e))

  pub form_inside : (e : ℕ) → e < h.entries → form_length (entry image e) ≤ 12 → form_start image e + form_length (entry image e) ≤ length image
  form_inside e l k = omega (arith, entry_inside e 13 l (omega arith), form_start_lem e)

  pub form_size : (e : ℕ) → e < h.entries → form_length (entry image e) ≤ 12 → length (form_of (entry image e)) ≡ form_length (entry image e)
  form_size e l k =
      ap length (form_part e k)
      ∙ omega (arith, length-take (form_length (entry image e)) (drop (form_start image e) image), length-drop (form_start image e) image, form_inside e l k)

  pub form_byte : (e i : ℕ) → form_length (entry image e) ≤ 12 → i < form_length (entry image e) → byte (form_of (entry image e)) i ≡ byte image (form_start image e + i)
  form_byte e i k l =
      ap (λ (f : List ℕ). byte f i) (form_part e k)
      ∙ get_or-take (form_length (entry image e)) (drop (form_start image e) image) i 0 l
      ∙ get_or-drop (form_start image e) image i 0

  -- test 8 by the header's counts
  pub right_is : right_entries image ≡ (eqb (first_entry image h.lexicons) h.entries && every (λ e. is_entry (entry image e) h.form h.letters h.lexicons) (below h.entries))
  unfolding right_entries first_entry
  right_is = ap (λ (g : Header). eqb (first_entry image g.lexicons) g.entries && every (λ e. is_entry (entry image e) g.form g.letters g.lexicons) (below g.entries))
      (sym laid.header_is)

-- sums of counts
sum_more : (xs : List ℕ) (x : ℕ) → sum (xs ++ (x ∷ [])) ≡ sum xs + x
sum_more [] x = omega arith
sum_more (y ∷ xs) x = omega (arith, sum_more xs x)

-- the entries of a lexicon follow those of the lexicons before it
module _ (image : List ℕ) where
  pub first_none : first_entry image 0 ≡ 0
  unfolding first_entry
  first_none = refl

  pub first_suc : (x : ℕ) → first_entry image (suc x) ≡ first_entry image x + entry_count image x
  unfolding first_entry
  first_suc x = ap sum (map_below (entry_count image) x) ∙ sum_more (map (entry_count image) (below x)) (entry_count image x)

  pub first_more : (x : ℕ) → first_entry image (x + 1) ≡ first_entry image x + entry_count image x
  first_more x = ap (first_entry image) (add-one x) ∙ first_suc x

  -- a lexicon ends before a later one begins
  pub first_after : (x y : ℕ) → x < y → first_entry image x + entry_count image x ≤ first_entry image y
  first_after x zero h = absurd (omega arith)
  first_after x (suc y) h = go (dec_lt x y) (first_after x y)
    where
      go : Dec (x < y) → (x < y → first_entry image x + entry_count image x ≤ first_entry image y) → first_entry image x + entry_count image x ≤ first_entry image (suc y)
      go (yes l) r = let k = r l in omega (arith, first_suc y)
      go (no f) r =
          let e : x ≡ y = omega arith in
          rw e (omega (arith, first_suc y))

  pub lexicon_out : (x e : ℕ) → T (in_lexicon image x e) → (first_entry image x ≤ e) × (e < first_entry image x + entry_count image x)
  unfolding in_lexicon
  lexicon_out x e t =
      let u = and_out (leb (first_entry image x) e) (ltb e (first_entry image x + entry_count image x)) t in
      (leb→le (first_entry image x) e u.0, ltb→lt e (first_entry image x + entry_count image x) u.1)

  pub lexicon_in : (x e : ℕ) → first_entry image x ≤ e → e < first_entry image x + entry_count image x → T (in_lexicon image x e)
  unfolding in_lexicon
  lexicon_in x e h k = and_in (leb (first_entry image x) e) (ltb e (first_entry image x + entry_count image x)) (le→leb (first_entry image x) e h) (lt→ltb e (first_entry image x + entry_count image x) k)

  -- no entry is in two lexicons
  pub lexicon_one : (x y e : ℕ) → T (in_lexicon image x e) → T (in_lexicon image y e) → x ≡ y
  lexicon_one x y e s t = go (dec_lt x y) (dec_lt y x)
    where
      go : Dec (x < y) → Dec (y < x) → x ≡ y
      go (yes l) d = let u = lexicon_out x e s in let v = lexicon_out y e t in omega (arith, first_after x y l)
      go (no f) (yes l) = let u = lexicon_out x e s in let v = lexicon_out y e t in omega (arith, first_after y x l)
      go (no f) (no g) = omega arith

  -- each entry below the first of lexicon n is in a lexicon before it
  pub lexicon_has : (n e : ℕ) → e < first_entry image n → (x : ℕ) × (x < n) × T (in_lexicon image x e)
  lexicon_has zero e h = absurd (omega (arith, first_none))
  lexicon_has (suc n) e h = go (dec_lt e (first_entry image n)) (lexicon_has n e)
    where
      go : Dec (e < first_entry image n) → (e < first_entry image n → (x : ℕ) × (x < n) × T (in_lexicon image x e)) → (x : ℕ) × (x < suc n) × T (in_lexicon image x e)
      go (yes l) r = let t = r l in (t.0, omega (arith, t.1), t.2)
      go (no f) r = (n, omega arith, lexicon_in n e (omega arith) (omega (arith, first_suc n)))

-- an image that passed test 8 too
module _ (image : List ℕ) (h : Header) (laid : Laid image h) (right : T (right_entries image)) where
  right_parts : T (eqb (first_entry image h.lexicons) h.entries) × T (every (λ e. is_entry (entry image e) h.form h.letters h.lexicons) (below h.entries))
  right_parts =
      and_out (eqb (first_entry image h.lexicons) h.entries) (every (λ e. is_entry (entry image e) h.form h.letters h.lexicons) (below h.entries))
      (subst T (right_is image h laid) right)

  pub entry_right : (e : ℕ) → e < h.entries → T (is_entry (entry image e) h.form h.letters h.lexicons)
  entry_right e l = every_at (λ e. is_entry (entry image e) h.form h.letters h.lexicons) (below h.entries) (below_has h.entries e l) right_parts.1

  module _ (e : ℕ) (within-entries : e < h.entries) where
    abbrev own : List ℕ
    own = entry image e

    entry_parts : T (leb (form_length own) 12) × T (every (within 2 h.letters) (form_of own)) × T (every is_zero (drop (1 + form_length own) (take 13 own)))
        × T (right_ways own h.form h.lexicons)
    unfolding is_entry_of is_entry
    entry_parts =
        out4 (leb (form_length own) 12) (every (within 2 h.letters) (form_of own)) (every is_zero (drop (1 + form_length own) (take 13 own))) (right_ways own h.form h.lexicons)
        (entry_right e within-entries)

    pub ways_right : T (right_ways (entry image e) h.form h.lexicons)
    ways_right = entry_parts.3

    pub form_short : form_length (entry image e) ≤ 12
    form_short = leb→le (form_length (entry image e)) 12 entry_parts.0

    pub form_letters_lem : T (every (within 2 h.letters) (form_of (entry image e)))
    form_letters_lem = entry_parts.1

    pub form_letter : {letter : ℕ} → Memᴰ letter (form_of (entry image e)) → (2 ≤ letter) × (letter ≤ h.letters)
    form_letter {letter} m = within_out 2 h.letters letter (every_at (within 2 h.letters) (form_of (entry image e)) m form_letters_lem)

    pub form_letter_at : (i : ℕ) → i < form_length (entry image e) → (2 ≤ byte image (form_start image e + i)) × (byte image (form_start image e + i) ≤ h.letters)
    form_letter_at i l =
        let n : i < length (form_of (entry image e)) = omega (arith, form_size image h laid e within-entries form_short) in
        subst (λ (b : ℕ). (2 ≤ b) × (b ≤ h.letters)) (form_byte image h laid e i form_short l) (within_out 2 h.letters (byte (form_of (entry image e)) i) (every_get_d (within 2 h.letters) (form_of (entry image e)) i 0 n form_letters_lem))

  -- the lexicons tile the entries
  pub first_last : first_entry image h.lexicons ≡ h.entries
  first_last = eqb→eq (first_entry image h.lexicons) h.entries right_parts.0

  pub lexicon_within : (x : ℕ) → x < h.lexicons → first_entry image x + entry_count image x ≤ h.entries
  lexicon_within x l = omega (arith, first_after image x h.lexicons l, first_last)

  pub lexicon_entry : (x e : ℕ) → x < h.lexicons → T (in_lexicon image x e) → e < h.entries
  lexicon_entry x e l t = let u = lexicon_out image x e t in omega (arith, lexicon_within x l)

  -- each entry is in one lexicon, and in no other
  pub lexicon_of : (e : ℕ) → e < h.entries → (x : ℕ) × (x < h.lexicons) × T (in_lexicon image x e) × ((y : ℕ) → T (in_lexicon image y e) → y ≡ x)
  lexicon_of e l = let t = lexicon_has image h.lexicons e (omega (arith, first_last)) in (t.0, t.1, t.2, λ y u. lexicon_one image y t.0 e u t.2)
