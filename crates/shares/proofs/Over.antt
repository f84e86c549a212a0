-- Parts of one width laid one after the other over the front of a buffer: places for replies, shares of the rows.
use Prim.Native.Nat.{ℕ, suc, ◌+◌, ◌*◌, ◌/◌, ◌<◌, ◌≤◌}
use native.Mathlib.Nat.{mul-suc, mul-zero, mul_assoc, mul-le-mul_left, div-mul-le_self}
use native.Mathlib.Numerals.{add-one}
use native.Mathlib.Omega.{arith}
use mathlib.Core.Path.{◌≡◌, refl, sym, ap, ap₂, ◌∙◌}
use mathlib.Core.List.{List, ◌++◌, append_assoc}
use lib.ListN.{length, take, drop, length-take, length-drop, length-append}
use lib.Seq.{drop-drop, take_at, drop_at}
use borrow.Rule.Slice.PartMut.{put_mid, same_len_mid}
use Rattle.model.specs.Lists.{below, flat_map, part}
use Rattle.model.proofs.Lists.{flat_map_below}
use Rattle.shares.specs.Words.{laid_over}

-- the first i parts are laid
pub record Over (w : ℕ) (f : ℕ → List ℕ) (buffer : List ℕ) (i : ℕ) (now : List ℕ) : Type 0 where
  pub is : now ≡ laid_over w i f buffer
  pub front : length (flat_map f (below i)) ≡ w * i
  pub same : length now ≡ length buffer

-- how long a part is that lies inside
pub part_long : (w i : ℕ) (buffer : List ℕ) → w * i + w ≤ length buffer → length (part w buffer i) ≡ w
part_long w i buffer h = omega (arith, length-take w (drop (w * i) buffer), length-drop (w * i) buffer)

module _ (w : ℕ) (f : ℕ → List ℕ) (buffer : List ℕ) where
  pub over_none : Over w f buffer 0 buffer
  over_none = record { is = ap (λ (n : ℕ). drop n buffer) (sym (mul-zero w)); front = sym (mul-zero w); same = refl }

  -- where part i lies, in a buffer with room for n of them
  pub part_inside : (i n : ℕ) → i < n → w * n ≤ length buffer → w * i + w ≤ length buffer
  part_inside i n h k = omega (arith, mul-le-mul_left {m = suc i} {n = n} w h, mul-suc w i)

  module _ (i : ℕ) (now : List ℕ) (o : Over w f buffer i now) where
    rest : drop (w * i) now ≡ drop (w * i) buffer
    rest = ap (drop (w * i)) o.is ∙ drop_at (flat_map f (below i)) (drop (w * i) buffer) (w * i) o.front

    -- the part that is lent is the buffer's own
    pub over_lent : (m : ℕ) → m ≡ w → take m (drop (w * i) now) ≡ part w buffer i
    over_lent m e = rw e (ap (take w) rest)

    -- and a part in its place
    module _ (m : ℕ) (wide : m ≡ w) (inside : w * i + w ≤ length buffer) (x : List ℕ) (new : x ≡ f i) (kept : length x ≡ length (take m (drop (w * i) now))) where
      pub over_more : Over w f buffer (i + 1) (put_mid (w * i) m now x)
      over_more =
          let next : w * i + w ≡ w * (i + 1) = sym (mul-suc w i) ∙ ap (λ (n : ℕ). w * n) (sym (add-one i)) in
          let parts : flat_map f (below i) ++ f i ≡ flat_map f (below (i + 1)) = sym (flat_map_below f i) ∙ ap (λ (n : ℕ). flat_map f (below n)) (sym (add-one i)) in
          let past : drop m (drop (w * i) now) ≡ drop (w * (i + 1)) buffer = rw wide (ap (drop w) rest ∙ drop-drop w (w * i) buffer ∙ ap (λ (n : ℕ). drop n buffer) next) in
          let before : take (w * i) now ≡ flat_map f (below i) = ap (take (w * i)) o.is ∙ take_at (flat_map f (below i)) (drop (w * i) buffer) (w * i) o.front in
          let long : length x ≡ w = kept ∙ ap length (over_lent m wide) ∙ part_long w i buffer inside in
          record {
            is = ap₂ (λ (a b : List ℕ). a ++ (x ++ b)) before past
                ∙ ap (λ (y : List ℕ). flat_map f (below i) ++ (y ++ drop (w * (i + 1)) buffer)) new
                ∙ sym (append_assoc (flat_map f (below i)) (f i) (drop (w * (i + 1)) buffer))
                ∙ ap (λ (y : List ℕ). y ++ drop (w * (i + 1)) buffer) parts;
            front = ap length (sym parts) ∙ length-append (flat_map f (below i)) (f i) ∙ ap₂ (λ (a b : ℕ). a + b) o.front (ap length (sym new) ∙ long) ∙ next;
            same = same_len_mid (w * i) m now x kept ∙ o.same;
          }

-- how many rows a share has
pub share_rows_lem : (s : ℕ) → 116 * s / 116 ≡ s
share_rows_lem s = omega arith

-- n equal shares of the rows lie inside
pub shares_inside : (n length_rows : ℕ) → 116 * (length_rows / 116 / n) * n ≤ length_rows
shares_inside n m = omega (arith, mul_assoc 116 (m / 116 / n) n, mul-le-mul_left 116 (div-mul-le_self (m / 116) n))
