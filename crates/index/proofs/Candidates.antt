-- What filling one candidate row stores: one pair after another, and the count before them. Past the last letter a row is empty.
use Prim.Native.Nat.{ℕ, suc, ◌+◌, ◌-◌, ◌<◌, ◌≤◌}
use native.Mathlib.Numerals.{add-one}
use native.Mathlib.Omega.{arith}
use mathlib.Core.Bool.{Bool, true, false}
use mathlib.Core.Path.{◌≡◌, refl, sym, ap, ap₂, ◌∙◌}
use mathlib.Core.List.{List, [], ◌∷◌, ◌++◌, append_assoc, append-nil}
use lib.ListN.{length, take, set, replicate, length-append, length-replicate}
use lib.Seq.{set_at, append_snoc, take-append-add}
use borrow.Author.Tests.{le-leb, lt-leb}
use Rattle.model.specs.Lists.{below, given}
use Rattle.model.specs.Blocks.{header}
use Rattle.image.specs.Index.{only, index_row, candidates, candidate_row}
use Rattle.index.specs.Candidates.{is_candidate}
use Rattle.tables.proofs.RowByRow.{take_replicate}

only_append : (f : ℕ → Bool) (xs ys : List ℕ) → only f (xs ++ ys) ≡ only f xs ++ only f ys
only_append f [] ys = refl
only_append f (x ∷ xs) ys = ap (λ (l : List ℕ). given (f x) (x ∷ []) ++ l) (only_append f xs ys) ∙ sym (append_assoc (given (f x) (x ∷ [])) (only f xs) (only f ys))

-- a row with these pairs, before their count is stored
unfoldable pub row_of : List ℕ → List ℕ
row_of xs = 0 ∷ (xs ++ replicate (255 - length xs) 0)

pub row_none : replicate 256 0 ≡ row_of []
unfolding row_of
row_none = refl

pub length_row_of : (xs : List ℕ) → length xs ≤ 255 → length (row_of xs) ≡ 256
unfolding row_of
length_row_of xs h = omega (arith, length-append xs (replicate (255 - length xs) 0), length-replicate {A = ℕ} (255 - length xs) 0)

pub row_more : (xs : List ℕ) (n x : ℕ) → n ≡ length xs → n < 255 → set (row_of xs) (n + 1) x ≡ row_of (xs ++ (x ∷ []))
unfolding row_of
row_more xs n x e h =
    let m : 255 - length xs ≡ suc (254 - n) = omega arith in
    let k : 254 - n ≡ 255 - length (xs ++ (x ∷ [])) = omega (arith, length-append xs (x ∷ [])) in
    ap (λ (i : ℕ). set (row_of xs) i x) (add-one n)
    ∙ ap {B = List ℕ} (λ l. 0 ∷ l) (ap (λ (i : ℕ). set (xs ++ replicate i 0) n x) m ∙ set_at xs 0 (replicate (254 - n) 0) x n (sym e) ∙ sym (append_snoc xs x (replicate (254 - n) 0)) ∙ ap (λ (i : ℕ). (xs ++ (x ∷ [])) ++ replicate i 0) k)

pub row_counted : (xs : List ℕ) (n : ℕ) → n ≡ length xs → n ≤ 255 → set (row_of xs) 0 n ≡ index_row (length xs ∷ xs)
unfolding row_of index_row
row_counted xs n e h =
    let m : length xs + (255 - length xs) ≡ 255 = omega arith in
    ap₂ {C = List ℕ} (λ i l. i ∷ l) e
    (sym (ap (λ (i : ℕ). take i (xs ++ replicate 256 0)) (sym m) ∙ take-append-add xs (replicate 256 0) (255 - length xs) ∙ ap (λ (l : List ℕ). xs ++ l) (take_replicate (255 - length xs) 256 0 (omega arith))))

module _ (image : List ℕ) (a : ℕ) where
  -- the candidates among the pairs below p
  abbrev pub found : ℕ → List ℕ
  found p = only (is_candidate image a) (below p)

  pub found_more : (p : ℕ) → is_candidate image a p ≡ true → found (p + 1) ≡ found p ++ (p ∷ [])
  found_more p e = ap found (add-one p) ∙ only_append (is_candidate image a) (below p) (p ∷ []) ∙ ap (λ (b : Bool). found p ++ (given b (p ∷ []) ++ [])) e

  pub found_same : (p : ℕ) → is_candidate image a p ≡ false → found (p + 1) ≡ found p
  found_same p e = ap found (add-one p) ∙ only_append (is_candidate image a) (below p) (p ∷ []) ∙ ap (λ (b : Bool). found p ++ (given b (p ∷ []) ++ [])) e ∙ append-nil (found p)

  pub row_whole : (n : ℕ) → a ≤ (header image).letters → n ≡ length (found (header image).pairs) → n ≤ 255 → set (row_of (found (header image).pairs)) 0 n ≡ candidate_row image a
  unfolding candidate_row candidates
  row_whole n h e k =
      let xs = found (header image).pairs in
      row_counted xs n e k ∙ ap (λ (b : Bool). index_row (given b (length xs ∷ xs))) (sym (le-leb a (header image).letters h))

-- past the last letter there are only zeros
pub no_candidates : (image : List ℕ) (a : ℕ) → (header image).letters < a → candidate_row image a ≡ replicate 256 0
unfolding candidate_row index_row
no_candidates image a h = ap (λ (b : Bool). index_row (given b (length (candidates image a) ∷ candidates image a))) (lt-leb a (header image).letters h) ∙ take_replicate 256 256 0 (omega arith)
