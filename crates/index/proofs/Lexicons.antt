-- What filling the lexicons' row stores: one number after another, and zeros after them.
use Prim.Native.Nat.{ℕ, suc, ◌+◌, ◌*◌, ◌-◌, ◌/◌, ◌%◌, ◌<◌, ◌≤◌}
use native.Mathlib.Numerals.{add-one}
use native.Mathlib.Omega.{arith}
use mathlib.Core.Path.{◌≡◌, refl, sym, ap, ◌∙◌}
use mathlib.Core.List.{List, [], ◌∷◌, ◌++◌, append_assoc}
use lib.ListN.{length, take, set, replicate, length-append, length-replicate}
use lib.Seq.{set_at, append_snoc, take-append-add}
use Rattle.model.specs.Lists.{below, flat_map, number_bytes}
use Rattle.model.specs.Blocks.{header}
use Rattle.model.specs.Lexicon.{first_entry}
use Rattle.model.proofs.Lists.{length_below, flat_map_below}
use Rattle.model.proofs.Parts.{length_parts}
use Rattle.image.specs.Index.{index_row, lexicon_row}
use Rattle.tables.proofs.RowByRow.{take_replicate}

module _ (image : List ℕ) where
  -- where the lexicons below x begin, and zeros
  unfoldable pub firsts_to : ℕ → List ℕ
  firsts_to x = flat_map (λ x. number_bytes (first_entry image x)) (below x) ++ replicate (256 - 2 * x) 0

  pub firsts_none : replicate 256 0 ≡ firsts_to 0
  unfolding firsts_to
  firsts_none = refl

  length_firsts : (x : ℕ) → length (flat_map (λ x. number_bytes (first_entry image x)) (below x)) ≡ 2 * x
  length_firsts x = length_parts 2 (λ x. number_bytes (first_entry image x)) (below x) (λ y m. refl) ∙ ap (λ (n : ℕ). 2 * n) (length_below x)

  pub length_firsts_to : (x : ℕ) → x ≤ 128 → length (firsts_to x) ≡ 256
  unfolding firsts_to
  length_firsts_to x h = omega (arith, length-append (flat_map (λ x. number_bytes (first_entry image x)) (below x)) (replicate (256 - 2 * x) 0), length_firsts x, length-replicate {A = ℕ} (256 - 2 * x) 0)

  -- the number of one more
  pub firsts_more : (x n : ℕ) (now : List ℕ) → x < 128 → now ≡ firsts_to x → n ≡ first_entry image x → set (set now (2 * x) (n % 256)) (2 * x + 1) (n / 256 % 256) ≡ firsts_to (x + 1)
  unfolding firsts_to
  firsts_more x n now h e f =
      let front = flat_map (λ x. number_bytes (first_entry image x)) (below x) in
      let rest : List ℕ = replicate (256 - 2 * (x + 1)) 0 in
      let lo = n % 256 in
      let hi = n / 256 % 256 in
      let m : 256 - 2 * x ≡ suc (suc (256 - 2 * (x + 1))) = omega arith in
      let one : set now (2 * x) lo ≡ (front ++ (lo ∷ [])) ++ (0 ∷ rest) =
      ap (λ (l : List ℕ). set l (2 * x) lo) (e ∙ ap (λ (i : ℕ). front ++ replicate i 0) m)
      ∙ set_at front 0 (0 ∷ rest) lo (2 * x) (length_firsts x)
      ∙ sym (append_snoc front lo (0 ∷ rest)) in
      let two : set ((front ++ (lo ∷ [])) ++ (0 ∷ rest)) (2 * x + 1) hi ≡ (front ++ (lo ∷ [])) ++ (hi ∷ rest) =
      set_at (front ++ (lo ∷ [])) 0 rest hi (2 * x + 1) (omega (arith, length-append front (lo ∷ []), length_firsts x)) in
      ap (λ (l : List ℕ). set l (2 * x + 1) hi) one
      ∙ two
      ∙ append_snoc front lo (hi ∷ rest)
      ∙ sym (append_assoc front (lo ∷ hi ∷ []) rest)
      ∙ ap (λ (k : ℕ). (front ++ number_bytes k) ++ rest) f
      ∙ ap (λ (l : List ℕ). l ++ rest) (sym (flat_map_below (λ x. number_bytes (first_entry image x)) x) ∙ ap (λ (k : ℕ). flat_map (λ x. number_bytes (first_entry image x)) (below k)) (sym (add-one x)))

  pub firsts_all : (x : ℕ) → x ≡ (header image).lexicons → x < 128 → firsts_to (x + 1) ≡ lexicon_row image
  unfolding firsts_to lexicon_row index_row
  firsts_all x e h =
      let all = flat_map (λ x. number_bytes (first_entry image x)) (below (x + 1)) in
      let w : length all + (256 - 2 * (x + 1)) ≡ 256 = omega (arith, length_firsts (x + 1)) in
      sym (ap (λ (i : ℕ). take i (all ++ replicate 256 0)) (sym w) ∙ take-append-add all (replicate 256 0) (256 - 2 * (x + 1)) ∙ ap (λ (l : List ℕ). all ++ l) (take_replicate (256 - 2 * (x + 1)) 256 0 (omega arith)))
      ∙ ap (λ (k : ℕ). take 256 (flat_map (λ x. number_bytes (first_entry image x)) (below (k + 1)) ++ replicate 256 0)) e
