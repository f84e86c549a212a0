-- A column that names a set, over the letters as its sides see them: it matches what it should, and a pass by it is the pass by its sets.
use Prim.Native.Nat.{ℕ, ◌+◌, ◌<◌, min}
use mathlib.Core.Bool.{Bool, ◌&&◌, cond}
use mathlib.Core.Path.{◌≡◌, refl, ap, ap₂, ◌∙◌}
use mathlib.Core.List.{List, [], ◌∷◌, map, Memᴰ}
use Rattle.model.specs.Lists.{below, count, byte}
use Rattle.model.specs.RuleTables.{Pair, Sides, matches}
use Rattle.model.proofs.Lists.{below_from}
use Rattle.sets.specs.Sides.{meets_side, meets}
use Rattle.sets.specs.Seen.{Seen}
use Rattle.sets.proofs.LetterSets.{seen_side}
use Rattle.columns.specs.Passes.{pair_in, narrower, PassedBy}

module _ (sets : List (List ℕ)) where
  -- any column, over the letters as its sides see them
  module _ (c : Sides) (lexical surface lexical' surface' : List ℕ) (n : ℕ) (l : Seen sets c.lexical lexical n lexical') (s : Seen sets c.surface surface n surface') where
    pub seen_column : (p : ℕ) → p < n → meets c (pair_in lexical' surface' p) ≡ matches sets c (pair_in lexical surface p)
    unfolding meets matches
    seen_column p h =
        ap₂ (λ (x y : Bool). x && y)
        (ap (meets_side c.lexical) (l.each p h) ∙ seen_side sets c.lexical (byte lexical p))
        (ap (meets_side c.surface) (s.each p h) ∙ seen_side sets c.surface (byte surface p))

-- how many pass, where two tests agree on each
count_same : (f g : Pair → Bool) (x y : ℕ → Pair) (ps : List ℕ) → ((p : ℕ) → Memᴰ p ps → f (x p) ≡ g (y p)) → count f (map x ps) ≡ count g (map y ps)
count_same f g x y [] same = refl
count_same f g x y (p ∷ ps) same = ap₂ (λ (b : Bool) (n : ℕ). cond b 1 0 + n) (same p (Memᴰ.head refl)) (count_same f g x y ps (λ q m. same q (Memᴰ.tail m)))

-- a pass by tests that agree is the same pass
module _ (f g : Sides → Pair → Bool) (column : Sides) (lexical surface lexical' surface' : List ℕ) (pairs : ℕ)
    (same : (p : ℕ) → p < pairs → f column (pair_in lexical' surface' p) ≡ g column (pair_in lexical surface p)) where
  pub passed_same : (c columns : ℕ) (best least best' least' : List ℕ)
      → PassedBy lexical' surface' pairs column f c columns best least best' least'
      → PassedBy lexical surface pairs column g c columns best least best' least'
  passed_same c columns best least best' least' w =
      let broad = count_same (f column) (g column) (pair_in lexical' surface') (pair_in lexical surface) (below pairs) (λ p m. same p (below_from pairs p m)) in
      record {
        best_size = w.best_size;
        least_size = w.least_size;
        best_is = λ p h. w.best_is p h ∙ ap₂ (λ (b : Bool) (n : ℕ). cond b (narrower n c columns (byte best p) (byte least p)) (byte best p)) (same p h) broad;
        least_is = λ p h. w.least_is p h ∙ ap₂ (λ (b : Bool) (n : ℕ). cond b (min n (byte least p)) (byte least p)) (same p h) broad;
      }
