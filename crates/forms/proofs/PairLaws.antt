-- Pairs put into the rows of their surface letters one after another, and flags.
use Prim.Native.Nat.{ℕ, ◌+◌, ◌*◌, ◌<◌, ◌≤◌}
use native.Mathlib.Omega.{arith}
use native.Mathlib.Decide.{ℕ_discrete, dec_lt}
use mathlib.Core.Path.{◌≡◌, sym, ap, ◌∙◌, subst}
use mathlib.Core.Logic.{inl, inr}
use mathlib.Core.List.{List}
use lib.ListN.{length, get_or, set, replicate, length-set, length-replicate, get_or-eq_default}
use lib.Seq.{get_or-set_same, get_or-set_other}
use lib.Dec.{T}
use Rattle.std.proofs.lemmas.List.{get_or-replicate}
use Rattle.model.specs.Blocks.{Header, header}
use Rattle.letters.proofs.Laws.{IsSide, right_pair, laid_pairs}
use Rattle.image.specs.Accepted.{Accepted}
use Rattle.forms.specs.Letters.{row_count, row_letter}
use Rattle.forms.specs.Filling.{sides_of, RowMore, RowsOf, FlagsOf}

-- the sides of a pair of an accepted image are letters
module _ (image : List ℕ) (h : Header) (a : Accepted image h) (p : ℕ) (there : p < h.pairs) where
  side_most : (letters n : ℕ) → letters ≤ 120 → IsSide letters n → n ≤ 120
  side_most letters n m (inl e) = omega arith
  side_most letters n m (inr e) = omega arith

  letters_most : (header image).letters ≤ 120
  letters_most = subst (λ (g : Header). g.letters ≤ 120) a.laid.header_is a.laid.limits.letters_most

  pub lexical_most : (sides_of image p).lexical ≤ 120
  lexical_most = side_most (header image).letters (sides_of image p).lexical letters_most (right_pair image (subst T (sym a.pairs_right) tt) p (omega (arith, laid_pairs a.laid))).lexical_is

  pub surface_most : (sides_of image p).surface ≤ 120
  surface_most = side_most (header image).letters (sides_of image p).surface letters_most (right_pair image (subst T (sym a.pairs_right) tt) p (omega (arith, laid_pairs a.laid))).surface_is

-- a letter stored behind the others of its row, and then the count
pub row_stored : (rows : List ℕ) (s a n m : ℕ) → length rows ≡ 30976 → s ≤ 120 → n ≡ row_count rows s → n < 255 → m ≡ n + 1 → RowMore rows (set (set rows (256 * s + 1 + n) a) (256 * s) m) s a
row_stored rows s a n m long few e small f =
    let one = length-set rows (256 * s + 1 + n) a in
    record {
      long = length-set (set rows (256 * s + 1 + n) a) (256 * s) m ∙ one;
      counted = get_or-set_same (set rows (256 * s + 1 + n) a) (256 * s) m 0 (omega arith) ∙ omega arith;
      last =
          let at : 256 * s + 1 + row_count rows s ≡ 256 * s + 1 + n = omega arith in
          ap (λ (j : ℕ). get_or (set (set rows (256 * s + 1 + n) a) (256 * s) m) j 0) at
          ∙ get_or-set_other (set rows (256 * s + 1 + n) a) (256 * s) (256 * s + 1 + n) m 0 (λ z. omega arith)
          ∙ get_or-set_same rows (256 * s + 1 + n) a 0 (omega arith);
      elsewhere = λ j p q. get_or-set_other (set rows (256 * s + 1 + n) a) (256 * s) j m 0 p ∙ get_or-set_other rows (256 * s + 1 + n) j a 0 (λ z. q (omega arith));
    }

-- rows of zeros
pub rows_none : (image rows : List ℕ) → rows ≡ replicate 30976 0 → RowsOf image rows 0
rows_none image rows e = record {
  long = ap length e ∙ length-replicate {A = ℕ} 30976 0;
  few = λ s h. omega (arith, zero (256 * s));
  letters_in = λ s h k l. omega (arith, zero (256 * s + 1 + k));
  paired = λ p h. absurd (omega arith);
}
  where
    go : (i : ℕ) → Dec (i < 30976) → get_or (replicate {A = ℕ} 30976 0) i 0 ≡ 0
    go i (yes h) = get_or-replicate 30976 i 0 0 h
    go i (no h) = get_or-eq_default (replicate 30976 0) 0 {n = i} (omega (arith, length-replicate {A = ℕ} 30976 0))

    zero : (i : ℕ) → get_or rows i 0 ≡ 0
    zero i = ap (λ (l : List ℕ). get_or l i 0) e ∙ go i (dec_lt i 30976)

module _ (image rows : List ℕ) (p : ℕ) where
  -- a pair that stands in no row
  pub rows_passed : RowsOf image rows p → (sides_of image p).surface ≡ 0 → RowsOf image rows (p + 1)
  rows_passed r e = record {
    long = r.long;
    few = λ s h. omega (arith, r.few s h);
    letters_in = r.letters_in;
    paired = λ q h f. go q h f (ℕ_discrete q p);
  }
    where
      go : (q : ℕ) → q < p + 1 → ((sides_of image q).surface ≡ 0 → ⊥) → Dec (q ≡ p)
          → (k : ℕ) × ((k < row_count rows (sides_of image q).surface) × (row_letter rows (sides_of image q).surface k ≡ (sides_of image q).lexical))
      go q h f (yes z) = absurd (f (ap (λ (i : ℕ). (sides_of image i).surface) z ∙ e))
      go q h f (no z) = r.paired q (omega arith) f

  -- one that is put at the end of its row
  module _ (new : List ℕ) (s a : ℕ) (r : RowsOf image rows p) (more : RowMore rows new s a) (small : s ≤ 120) (letter : a ≤ 120) where
    -- the counts of other rows, and the letters that were there
    count_kept : (t : ℕ) → t ≤ 120 → (t ≡ s → ⊥) → row_count rows s < 255 → row_count new t ≡ row_count rows t
    count_kept t h z f = more.elsewhere (256 * t) (λ e. z (omega arith)) (λ e. omega arith)

    letter_kept : (t k : ℕ) → t ≤ 120 → k < row_count rows t → row_count rows t < 255 → row_count rows s < 255 → row_letter new t k ≡ row_letter rows t k
    letter_kept t k h l f g = more.elsewhere (256 * t + 1 + k) (λ e. omega arith) (λ e. same (ℕ_discrete t s) e)
      where
        same : Dec (t ≡ s) → 256 * t + 1 + k ≡ 256 * s + 1 + row_count rows s → ⊥
        same (yes z) e = omega (arith, ap (row_count rows) z)
        same (no z) e = z (omega arith)

    pub rows_more : p < 250 → ((q : ℕ) → q < p → (sides_of image q).surface ≤ 120) → s ≡ (sides_of image p).surface → a ≡ (sides_of image p).lexical → RowsOf image new (p + 1)
    rows_more room sides e f = record {
      long = more.long ∙ r.long;
      few = λ t h. few t h (ℕ_discrete t s);
      letters_in = λ t h k l. in_row t h k l (ℕ_discrete t s);
      paired = λ q h g. paired q h g (ℕ_discrete q p);
    }
      where
        room_left : row_count rows s < 255
        room_left = omega (arith, r.few s small)

        few : (t : ℕ) → t ≤ 120 → Dec (t ≡ s) → row_count new t ≤ p + 1
        few t h (yes z) = omega (arith, ap (row_count new) z, more.counted, r.few s small)
        few t h (no z) = omega (arith, count_kept t h z room_left, r.few t h)

        kept : (t k : ℕ) → t ≤ 120 → k < row_count rows t → row_letter new t k ≡ row_letter rows t k
        kept t k h l = letter_kept t k h l (omega (arith, r.few t h)) room_left

        in_row : (t : ℕ) → t ≤ 120 → (k : ℕ) → k < row_count new t → Dec (t ≡ s) → row_letter new t k < 128
        in_row t h k l (yes z) = at (ℕ_discrete k (row_count rows s))
          where
            at : Dec (k ≡ row_count rows s) → row_letter new t k < 128
            at (yes y) =
                let same : 256 * t + 1 + k ≡ 256 * s + 1 + row_count rows s = omega arith in
                omega (arith, ap (λ (j : ℕ). get_or new j 0) same, more.last)
            at (no y) =
                let before : k < row_count rows t = omega (arith, ap (row_count new) z, ap (row_count rows) z, more.counted) in
                omega (arith, kept t k h before, r.letters_in t h k before)
        in_row t h k l (no z) = let before : k < row_count rows t = omega (arith, count_kept t h z room_left) in omega (arith, kept t k h before, r.letters_in t h k before)

        grows : (t : ℕ) → t ≤ 120 → row_count rows t ≤ row_count new t
        grows t h = at (ℕ_discrete t s)
          where
            at : Dec (t ≡ s) → row_count rows t ≤ row_count new t
            at (yes z) = omega (arith, ap (row_count new) z, ap (row_count rows) z, more.counted)
            at (no z) = omega (arith, count_kept t h z room_left)

        paired : (q : ℕ) → q < p + 1 → ((sides_of image q).surface ≡ 0 → ⊥) → Dec (q ≡ p)
            → (k : ℕ) × ((k < row_count new (sides_of image q).surface) × (row_letter new (sides_of image q).surface k ≡ (sides_of image q).lexical))
        paired q h g (yes z) =
            let t : s ≡ (sides_of image q).surface = e ∙ ap (λ (i : ℕ). (sides_of image i).surface) (sym z) in
            let b : a ≡ (sides_of image q).lexical = f ∙ ap (λ (i : ℕ). (sides_of image i).lexical) (sym z) in
            let place = row_count rows s in
            let within = subst (λ (x : ℕ). place < row_count new x) t (omega (arith, more.counted)) in
            (place, (within, subst (λ (x : ℕ). row_letter new x place ≡ (sides_of image q).lexical) t (more.last ∙ b)))
        paired q h g (no z) =
            let w = r.paired q (omega arith) g in
            let t = (sides_of image q).surface in
            let h : t ≤ 120 = sides q (omega arith) in
            (w.0, (omega (arith, w.1.0, grows t h), kept t w.0 h w.1.0 ∙ w.1.1))

-- flags
pub flags_none : (image flags : List ℕ) → length flags ≡ 128 → FlagsOf image flags 0
flags_none image flags e = record { long = e; deleted = λ p h. absurd (omega arith) }

module _ (image flags : List ℕ) (p : ℕ) (f : FlagsOf image flags p) where
  pub flags_passed : ((sides_of image p).surface ≡ 0 → ⊥) → FlagsOf image flags (p + 1)
  flags_passed g = record { long = f.long; deleted = λ q h e. go q h e (ℕ_discrete q p) }
    where
      go : (q : ℕ) → q < p + 1 → (sides_of image q).surface ≡ 0 → Dec (q ≡ p) → get_or flags (sides_of image q).lexical 0 ≡ 0 → ⊥
      go q h e (yes z) = absurd (g (ap (λ (i : ℕ). (sides_of image i).surface) (sym z) ∙ e))
      go q h e (no z) = f.deleted q (omega arith) e

  pub flags_more : (a : ℕ) → a ≤ 120 → a ≡ (sides_of image p).lexical → FlagsOf image (set flags a 1) (p + 1)
  flags_more a small b = record { long = length-set flags a 1 ∙ f.long; deleted = λ q h e. go q h e (ℕ_discrete (sides_of image q).lexical a) (ℕ_discrete q p) }
    where
      go : (q : ℕ) → q < p + 1 → (sides_of image q).surface ≡ 0 → Dec ((sides_of image q).lexical ≡ a) → Dec (q ≡ p) → get_or (set flags a 1) (sides_of image q).lexical 0 ≡ 0 → ⊥
      go q h e (yes y) d w = omega (arith, w, ap (λ (i : ℕ). get_or (set flags a 1) i 0) y, get_or-set_same flags a 1 0 (omega (arith, f.long)))
      go q h e (no y) (yes z) w = y (ap (λ (i : ℕ). (sides_of image i).lexical) z ∙ sym b)
      go q h e (no y) (no z) w = f.deleted q (omega arith) e (sym (get_or-set_other flags a (sides_of image q).lexical 1 0 y) ∙ w)
