-- Rows of 256 bytes stored one after another into bytes that are all 0, and nothing after the last that is used.
use Prim.Native.Nat.{ℕ, zero, suc, ◌+◌, ◌*◌, ◌-◌, ◌<◌, ◌≤◌}
use native.Mathlib.Nat.{add-suc, add-zero}
use native.Mathlib.Numerals.{add-one}
use native.Mathlib.Omega.{arith}
use mathlib.Core.Path.{◌≡◌, refl, sym, ap, ap₂, ◌∙◌}
use mathlib.Core.List.{List, ◌∷◌, ◌++◌, append_assoc, append-nil}
use lib.ListN.{length, take, drop, replicate, length-append, length-replicate, replicate-append-replicate}
use lib.Seq.{take_at, drop_at}
use borrow.Rule.Slice.PartMut.{put_mid}
use Rattle.model.specs.Lists.{below, flat_map}
use Rattle.model.proofs.Lists.{length_below, flat_map_below}
use Rattle.model.proofs.Parts.{length_parts}

-- parts of a list of one number
pub take_replicate : (m n a : ℕ) → m ≤ n → take m (replicate n a) ≡ replicate m a
take_replicate zero n a h = refl
take_replicate (suc m) zero a h = absurd (omega arith)
take_replicate (suc m) (suc n) a h = ap {B = List ℕ} (λ l. a ∷ l) (take_replicate m n a (omega arith))

pub drop_replicate : (l : List ℕ) (k w m n a : ℕ) → l ≡ replicate k a → w ≡ m → k ≡ m + n → drop w l ≡ replicate n a
drop_replicate l k w m n a e f g =
    ap₂ (λ (i : ℕ) (x : List ℕ). drop i x) f (e ∙ ap (λ (i : ℕ). replicate i a) g ∙ sym (replicate-append-replicate m n a))
    ∙ drop_at (replicate m a) (replicate n a) m (length-replicate m a)

-- the rows below a, and zeros
unfoldable pub rows_to : (ℕ → List ℕ) → ℕ → ℕ → List ℕ
rows_to row rows a = flat_map row (below a) ++ replicate (256 * (rows - a)) 0

module _ (row : ℕ → List ℕ) (wide : (i : ℕ) → length (row i) ≡ 256) (rows : ℕ) where
  pub rows_none : replicate (256 * rows) 0 ≡ rows_to row rows 0
  unfolding rows_to
  rows_none = let m : 256 * rows ≡ 256 * (rows - 0) = omega arith in ap (λ (n : ℕ). replicate n 0) m

  front_length : (a : ℕ) → length (flat_map row (below a)) ≡ 256 * a
  front_length a = length_parts 256 row (below a) (λ b m. wide b) ∙ ap (λ (n : ℕ). 256 * n) (length_below a)

  pub length_rows_to : (a : ℕ) → a ≤ rows → length (rows_to row rows a) ≡ 256 * rows
  unfolding rows_to
  length_rows_to a h = omega (arith, length-append (flat_map row (below a)) (replicate (256 * (rows - a)) 0), front_length a, length-replicate {A = ℕ} (256 * (rows - a)) 0)

  module _ (a : ℕ) (h : a < rows) (now : List ℕ) (e : now ≡ rows_to row rows a) where
    rest : drop (256 * a) now ≡ replicate (256 * (rows - a)) 0
    unfolding rows_to
    rest = ap (drop (256 * a)) e ∙ drop_at (flat_map row (below a)) (replicate (256 * (rows - a)) 0) (256 * a) (front_length a)

    -- the part that is lent
    pub lent_row : take (256 * a + 256 - 256 * a) (drop (256 * a) now) ≡ replicate 256 0
    lent_row =
        let w : 256 * a + 256 - 256 * a ≡ 256 = omega arith in
        ap₂ (λ (n : ℕ) (l : List ℕ). take n l) w rest ∙ take_replicate 256 (256 * (rows - a)) 0 (omega arith)

    -- and what comes back in its place
    pub rows_more : (part : List ℕ) → part ≡ row a → put_mid (256 * a) (256 * a + 256 - 256 * a) now part ≡ rows_to row rows (a + 1)
    unfolding rows_to
    rows_more part f =
        let front = flat_map row (below a) in
        let w : 256 * a + 256 - 256 * a ≡ 256 = omega arith in
        let m : 256 * (rows - a) ≡ 256 + 256 * (rows - (a + 1)) = omega arith in
        let t : take (256 * a) now ≡ front = ap (take (256 * a)) e ∙ take_at front (replicate (256 * (rows - a)) 0) (256 * a) (front_length a) in
        let r : drop (256 * a + 256 - 256 * a) (drop (256 * a) now) ≡ replicate (256 * (rows - (a + 1))) 0 = drop_replicate (drop (256 * a) now) (256 * (rows - a)) (256 * a + 256 - 256 * a) 256 (256 * (rows - (a + 1))) 0 rest w m in
        ap₂ (λ (x y : List ℕ). x ++ y) t (ap₂ (λ (x y : List ℕ). x ++ y) f r)
        ∙ sym (append_assoc front (row a) (replicate (256 * (rows - (a + 1))) 0))
        ∙ ap (λ (x : List ℕ). x ++ replicate (256 * (rows - (a + 1))) 0) (sym (flat_map_below row a) ∙ ap (λ (n : ℕ). flat_map row (below n)) (sym (add-one a)))

  -- past the last row that is used there are only zeros
  module _ (used : ℕ) (empty : (i : ℕ) → used ≤ i → row i ≡ replicate 256 0) where
    rows_rest : (a n : ℕ) → used ≤ a → flat_map row (below (a + n)) ≡ flat_map row (below a) ++ replicate (256 * n) 0
    rows_rest a zero h = ap (λ (k : ℕ). flat_map row (below k)) (add-zero a) ∙ sym (append-nil (flat_map row (below a)))
    rows_rest a (suc n) h =
        let m : 256 * n + 256 ≡ 256 * suc n = omega arith in
        ap (λ (k : ℕ). flat_map row (below k)) (add-suc a n)
        ∙ flat_map_below row (a + n)
        ∙ ap₂ (λ (x y : List ℕ). x ++ y) (rows_rest a n h) (empty (a + n) (omega arith))
        ∙ append_assoc (flat_map row (below a)) (replicate (256 * n) 0) (replicate 256 0)
        ∙ ap (λ (l : List ℕ). flat_map row (below a) ++ l) (replicate-append-replicate (256 * n) 256 0 ∙ ap (λ (k : ℕ). replicate k 0) m)

    pub rows_all : (a : ℕ) → used ≤ a → a ≤ rows → rows_to row rows a ≡ flat_map row (below rows)
    unfolding rows_to
    rows_all a h k =
        let e : a + (rows - a) ≡ rows = omega arith in
        sym (rows_rest a (rows - a) h) ∙ ap (λ (n : ℕ). flat_map row (below n)) e
