-- A rule obeyed by a pairing as it is laid out: the operator at each place, by the lexical letters beside it.
use Prim.Native.Nat.{ℕ, suc, ◌-◌, ◌<◌}
use native.Mathlib.Omega.{arith}
use mathlib.Core.Bool.{Bool}
use mathlib.Core.Path.{◌≡◌, sym, ap, ap₂, ◌∙◌}
use mathlib.Core.List.{List, [], ◌∷◌}
use lib.ListN.{length, get_or, length-append, get_or-append}
use lib.Dec.{eqb}
use Rattle.contexts.specs.Operators.{Rule, kept_by, kept, all, there, obeys}
use Rattle.contexts.proofs.Obeying.{all_same, obeys_bounded}
use Rattle.written_rules.specs.Places.{kept_at, kept_throughout, LaidOut}

module _ (lexical : ℕ → ℕ) (ps s letters : List ℕ) (l : LaidOut lexical ps s letters) (r : Rule) (letter : ℕ) (own : letter ≡ lexical r.own) where
  asked : ℕ → Bool
  asked i = kept lexical r.own (get_or s (suc i) 0) r.operator (there r s (suc i))

  same_letter : (i : ℕ) → i < length s - 2 → eqb (get_or letters (suc i) 0) letter ≡ eqb (lexical (get_or s (suc i) 0)) (lexical r.own)
  same_letter i h =
      let k : i < length ps = omega (arith, h, ap length l.pairs, length-append ps (255 ∷ [])) in
      ap₂ eqb (l.lexical_letters i k ∙ ap lexical (sym (ap (λ (t : List ℕ). get_or t (suc i) 0) l.pairs ∙ get_or-append ps (255 ∷ []) 0 i k))) own

  pub obeyed_so : (b : Bool) → b ≡ kept_throughout r letter s letters → b ≡ obeys lexical r ps
  unfolding asked
  obeyed_so b e =
      let by_letter = λ (i : ℕ) (h : i < length s - 2). ap (λ (x : Bool). kept_by r.operator (eqb (get_or s (suc i) 0) r.own) x (there r s (suc i))) (same_letter i h) in
      e
      ∙ all_same (kept_at r letter s letters) asked (length s - 2) by_letter
      ∙ ap (λ (t : List ℕ). all (λ i. kept lexical r.own (get_or t (suc i) 0) r.operator (there r t (suc i))) (length t - 2)) l.pairs
      ∙ sym (obeys_bounded lexical r ps)
