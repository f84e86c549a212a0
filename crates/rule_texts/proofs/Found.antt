-- The first byte b of a text: where it stands, what stands before it and after it, and that the text is cut there.
use Prim.Native.Nat.{ℕ, suc, ◌+◌, ◌-◌, ◌≤◌, ◌<◌}
use native.Mathlib.Omega.{arith}
use mathlib.Core.Bool.{Bool, true, false, not, ◌||◌, cond, true≢false}
use mathlib.Core.Path.{◌≡◌, refl, sym, ap, ◌∙◌}
use mathlib.Core.List.{List, [], ◌∷◌}
use lib.ListN.{length, take, drop, length-drop}
use lib.Seq.{take-length}
use lib.Dec.{ltb, eqb, leb-suc-suc}
use native.Mathlib.Decide.{dec_lt}
use borrow.Author.Tests.{lt-ltb, le-ltb}
use Rattle.std.specs.List.{position, position_or_len}
use Rattle.std.proofs.Common.{Some, None}
use Rattle.rule_texts.specs.Line.{up_to, after, has}
use Rattle.rule_texts.specs.Parts.{IsCut}

-- where the first byte b of a text stands, or the text's length
abbrev index_after : Bool → ℕ → ℕ
index_after true i = 0
index_after false i = suc i

unfoldable pub index_of : ℕ → List ℕ → ℕ
index_of b [] = 0
index_of b (x ∷ t) = index_after (eqb x b) (index_of b t)

module _ (b : ℕ) where
  index_inside : (t : List ℕ) → index_of b t ≤ length t
  unfolding index_of
  index_inside [] = omega arith
  index_inside (x ∷ t) = go (eqb x b) (index_inside t)
    where
      go : (e : Bool) → index_of b t ≤ length t → index_after e (index_of b t) ≤ suc (length t)
      go true h = omega arith
      go false h = omega arith

  before_it : (t : List ℕ) → up_to b t ≡ take (index_of b t) t
  unfolding index_of
  before_it [] = refl
  before_it (x ∷ t) = go (eqb x b) (before_it t)
    where
      go : (e : Bool) → up_to b t ≡ take (index_of b t) t → cond e [] (x ∷ up_to b t) ≡ take (index_after e (index_of b t)) (x ∷ t)
      go true h = refl
      go false h = ap {B = List ℕ} (λ l. x ∷ l) h

  after_it : (t : List ℕ) → after b t ≡ drop (suc (index_of b t)) t
  unfolding index_of
  after_it [] = refl
  after_it (x ∷ t) = go (eqb x b) (after_it t)
    where
      go : (e : Bool) → after b t ≡ drop (suc (index_of b t)) t → cond e t (after b t) ≡ drop (suc (index_after e (index_of b t))) (x ∷ t)
      go true h = refl
      go false h = h

  is_there : (t : List ℕ) → has b t ≡ ltb (index_of b t) (length t)
  unfolding index_of
  is_there [] = refl
  is_there (x ∷ t) = go (eqb x b) (is_there t)
    where
      go : (e : Bool) → has b t ≡ ltb (index_of b t) (length t) → (e || has b t) ≡ ltb (index_after e (index_of b t)) (suc (length t))
      go true h = sym (lt-ltb 0 (suc (length t)) (omega arith))
      go false h = h ∙ sym (leb-suc-suc (suc (index_of b t)) (length t))

  -- std's search, in these words
  as_std : (t : List ℕ) → index_of b t ≡ position_or_len (λ x. eqb x b) t
  unfolding index_of
  as_std [] = refl
  as_std (x ∷ t) = go (eqb x b) (as_std t)
    where
      go : (e : Bool) → index_of b t ≡ position_or_len (λ x. eqb x b) t → index_after e (index_of b t) ≡ cond (not e) (1 + position_or_len (λ x. eqb x b) t) 0
      go true h = refl
      go false h = omega (arith, h)

  stands : (t : List ℕ) (i : ℕ) → position (λ x. eqb x b) t ≡ Some i → (i ≡ index_of b t) × (i < length t)
  stands t i e = go (position_or_len (λ x. eqb x b) t) (as_std t) (dec_lt (position_or_len (λ x. eqb x b) t) (length t)) e
    where
      go : (m : ℕ) → index_of b t ≡ m → Dec (m < length t) → cond (ltb m (length t)) (Some m) None ≡ Some i → (i ≡ index_of b t) × (i < length t)
      go m f (yes h) e = let g : Some m ≡ Some i = (rw (lt-ltb m (length t) h) at e) in let k : m ≡ i = cc in (sym k ∙ sym f, omega arith)
      go m f (no h) e = let g : None ≡ Some i = (rw (le-ltb m (length t) (omega arith)) at e) in cc

  stands_not : (t : List ℕ) → position (λ x. eqb x b) t ≡ None → length t ≡ index_of b t
  stands_not t e = go (position_or_len (λ x. eqb x b) t) (as_std t) (dec_lt (position_or_len (λ x. eqb x b) t) (length t)) e
    where
      go : (m : ℕ) → index_of b t ≡ m → Dec (m < length t) → cond (ltb m (length t)) (Some m) None ≡ None → length t ≡ index_of b t
      go m f (yes h) e = let g : Some m ≡ None = (rw (lt-ltb m (length t) h) at e) in cc
      go m f (no h) e = omega (arith, index_inside t, f)

  -- so it cuts the text, or stands nowhere in it
  pub cut_there : (t : List ℕ) (i : ℕ) → position (λ x. eqb x b) t ≡ Some i → IsCut b t (take i t) (drop (i + 1) t)
  cut_there t i e =
      let h = stands t i e in
      let k : suc (index_of b t) ≡ i + 1 = omega (arith, h.0) in (
        is_there t ∙ lt-ltb (index_of b t) (length t) (omega (arith, h)),
        sym (before_it t ∙ ap (λ (n : ℕ). take n t) (sym h.0)),
        sym (after_it t ∙ ap (λ (n : ℕ). drop n t) k),
      )

  pub cut_nowhere : (t : List ℕ) → position (λ x. eqb x b) t ≡ None → has b t ≡ false
  cut_nowhere t e = is_there t ∙ le-ltb (index_of b t) (length t) (omega (arith, stands_not t e))

  -- a text without it is all before it
  pub uncut : (t : List ℕ) → has b t ≡ false → (up_to b t ≡ t) × (after b t ≡ [])
  uncut [] h = (refl, refl)
  uncut (x ∷ t) h = go (eqb x b) (uncut t) h
    where
      go : (e : Bool) → (has b t ≡ false → (up_to b t ≡ t) × (after b t ≡ [])) → (e || has b t) ≡ false → (cond e [] (x ∷ up_to b t) ≡ x ∷ t) × (cond e t (after b t) ≡ [])
      go true r h = absurd (true≢false h)
      go false r h = let k = r h in (ap {B = List ℕ} (λ l. x ∷ l) k.0, k.1)

  after_shorter : (t : List ℕ) → length (after b t) ≤ length t
  after_shorter [] = omega arith
  after_shorter (x ∷ t) = go (eqb x b) (after_shorter t)
    where
      go : (e : Bool) → length (after b t) ≤ length t → length (cond e t (after b t)) ≤ suc (length t)
      go true h = omega arith
      go false h = omega arith

  pub rest_shorter : (t : List ℕ) → (length t ≡ 0 → ⊥) → length (after b t) < length t
  rest_shorter [] f = absurd (f refl)
  rest_shorter (x ∷ t) f = go (eqb x b) (after_shorter t)
    where
      go : (e : Bool) → length (after b t) ≤ length t → length (cond e t (after b t)) < suc (length t)
      go true h = omega arith
      go false h = omega arith

-- a text from a place on, as a slice
pub rest_whole : (t : List ℕ) (k : ℕ) → take (length t - k) (drop k t) ≡ drop k t
rest_whole t k = ap (λ (n : ℕ). take n (drop k t)) (sym (length-drop k t)) ∙ take-length (drop k t)

pub cut_rest : (b : ℕ) (t : List ℕ) (k : ℕ) (u v : List ℕ) → IsCut b (take (length t - k) (drop k t)) u v → IsCut b (drop k t) u v
cut_rest b t k u v h = rw (rest_whole t k) at h
