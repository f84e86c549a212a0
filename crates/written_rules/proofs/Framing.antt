-- A pairing put between its boundaries.
use Prim.Native.Nat.{ℕ, zero, suc, ◌+◌, ◌≤◌, ◌<◌}
use native.Mathlib.Omega.{arith}
use native.Mathlib.Decide.{ℕ_discrete}
use mathlib.Core.Path.{◌≡◌, refl, sym, ap, ◌∙◌}
use mathlib.Core.List.{List, [], ◌∷◌, ◌++◌}
use lib.ListN.{length, get_or, take, set, replicate, length-set, length-append, get_or-replicate, get_or-append}
use lib.Seq.{length-take-le, get_or-take, get_or-set_same, get_or-set_other, get_or-append_seam, ext_get_or}
use Rattle.contexts.specs.Operators.{bounded}

pub record Framed (s ps : List ℕ) (i : ℕ) : Type 0 where
  pub long : length s ≡ 64
  pub so_far : i ≤ length ps
  pub front : get_or s 0 0 ≡ 255
  pub inner : (j : ℕ) → j < i → get_or s (suc j) 0 ≡ get_or ps j 0
  pub rest : (j : ℕ) → i < j → j < 64 → get_or s j 0 ≡ 255

pub frame_begun : (ps : List ℕ) → Framed (replicate 64 255) ps 0
frame_begun ps = record { long = refl; so_far = omega arith; front = refl; inner = λ j h. absurd (omega arith); rest = λ j h k. get_or-replicate 64 j 255 0 k }

pub frame_done : (s ps : List ℕ) (i : ℕ) → length ps < 61 → i ≡ length ps → Framed s ps i → take (length ps + 2) s ≡ bounded ps
frame_done s ps i b e f = ext_get_or 0 (take (length ps + 2) s) (bounded ps) (long ∙ sym same) (λ j h. get_or-take (length ps + 2) s j 0 (omega (arith, h, long)) ∙ at j (omega (arith, h, long)))
  where
    long : length (take (length ps + 2) s) ≡ length ps + 2
    long = length-take-le (length ps + 2) s (omega (arith, f.long))

    same : length (bounded ps) ≡ length ps + 2
    same = omega (arith, length-append ps (255 ∷ []))

    at : (j : ℕ) → j < length ps + 2 → get_or s j 0 ≡ get_or (bounded ps) j 0
    at zero h = f.front
    at (suc k) h = go (ℕ_discrete k (length ps))
      where
        go : Dec (k ≡ length ps) → get_or s (suc k) 0 ≡ get_or (ps ++ (255 ∷ [])) k 0
        go (yes d) = f.rest (suc k) (omega arith) (omega arith) ∙ sym (ap (λ (m : ℕ). get_or (ps ++ (255 ∷ [])) m 0) d ∙ get_or-append_seam ps 255 [] 0)
        go (no d) = f.inner k (omega arith) ∙ sym (get_or-append ps (255 ∷ []) 0 k (omega arith))

-- the lexical letters of the first i pairs, each in the place that it has between the boundaries
pub record Lettered (lexical : ℕ → ℕ) (letters ps : List ℕ) (i : ℕ) : Type 0 where
  pub long : length letters ≡ 64
  pub so_far : i ≤ length ps
  pub inner : (j : ℕ) → j < i → get_or letters (suc j) 0 ≡ lexical (get_or ps j 0)

module _ (lexical : ℕ → ℕ) (ps : List ℕ) where
  pub lettered_more : (letters : List ℕ) (i x : ℕ) → length ps ≤ 40 → i < length ps → x ≡ lexical (get_or ps i 0) → Lettered lexical letters ps i → Lettered lexical (set letters (i + 1) x) ps (i + 1)
  lettered_more letters i x few h e f = record { long = length-set letters (i + 1) x ∙ f.long; so_far = omega arith; inner = λ j k. go j k (ℕ_discrete j i) }
    where
      go : (j : ℕ) → j < i + 1 → Dec (j ≡ i) → get_or (set letters (i + 1) x) (suc j) 0 ≡ lexical (get_or ps j 0)
      go j k (yes d) =
          let w : suc j ≡ i + 1 = omega arith in
          ap (λ (m : ℕ). get_or (set letters (i + 1) x) m 0) w ∙ get_or-set_same letters (i + 1) x 0 (omega (arith, f.long)) ∙ e ∙ ap (λ (m : ℕ). lexical (get_or ps m 0)) (sym d)
      go j k (no d) = get_or-set_other letters (i + 1) (suc j) x 0 (λ w. d (omega arith)) ∙ f.inner j (omega arith)
