-- Lists written in place, part after part.
use Prim.Native.Nat.{ℕ, zero, suc, ◌+◌, ◌*◌, ◌-◌}
use native.Mathlib.Nat.{mul-suc}
use native.Mathlib.Numerals.{add-one}
use native.Mathlib.Omega.{arith}
use mathlib.Core.Path.{◌≡◌, sym, ap, ap₂, ◌∙◌}
use mathlib.Core.List.{List, ◌++◌, append_assoc}
use lib.ListN.{length, take, drop, replicate, length-append}
use lib.Seq.{take_at, drop_at, drop-drop}
use borrow.Rule.Slice.PartMut.{put_mid}
use Rattle.model.specs.Lists.{below, flat_map}
use Rattle.model.proofs.Lists.{flat_map_below, length_below}
use Rattle.model.proofs.Parts.{Wide, length_parts}

-- parts of width w one after the other, behind a front and before what stood there
module _ (front : List ℕ) (f : ℕ → List ℕ) (w : ℕ) (base : List ℕ) where
  unfoldable pub parts_to : ℕ → List ℕ
  parts_to i = front ++ (flat_map f (below i) ++ drop (length front + w * i) base)

  pub parts_more : (i from size : ℕ) (now part : List ℕ) → from ≡ length front + w * i → size ≡ w → Wide w f (below i) → now ≡ parts_to i → part ≡ f i
      → put_mid from size now part ≡ parts_to (i + 1)
  unfolding parts_to
  parts_more i from size now part e1 e2 wide e is =
      let all = flat_map f (below i) in
      let at = length front + w * i in
      let p = front ++ all in
      let l : length p ≡ from = omega (arith, length-append front all, length_parts w f (below i) wide ∙ ap (λ (n : ℕ). w * n) (length_below i)) in
      let s : now ≡ p ++ drop at base = e ∙ sym (append_assoc front all (drop at base)) in
      let t : take from now ≡ p = ap (take from) s ∙ take_at p (drop at base) from l in
      let d : drop from now ≡ drop at base = ap (drop from) s ∙ drop_at p (drop at base) from l in
      let m : at + size ≡ length front + w * (i + 1) = omega (arith, ap (λ (n : ℕ). w * n) (add-one i) ∙ mul-suc w i) in
      let rest = drop (length front + w * (i + 1)) base in
      let r : drop size (drop from now) ≡ rest = ap (drop size) d ∙ drop-drop size at base ∙ ap (λ (n : ℕ). drop n base) m in
      ap₂ (λ (x y : List ℕ). x ++ y) t (ap₂ (λ (x y : List ℕ). x ++ y) is r)
      ∙ append_assoc front all (f i ++ rest)
      ∙ ap (λ (x : List ℕ). front ++ x) (sym (append_assoc all (f i) rest)
      ∙ ap (λ (x : List ℕ). x ++ rest) (sym (flat_map_below f i) ∙ ap (λ (j : ℕ). flat_map f (below j)) (sym (add-one i))))

-- zeros
abbrev pub zeros : ℕ → List ℕ
zeros n = replicate n 0

pub drop_zeros : (m n : ℕ) → drop m (zeros n) ≡ zeros (n - m)
drop_zeros zero n = let e : n ≡ n - 0 = omega arith in ap zeros e
drop_zeros (suc m) zero = let e : 0 ≡ 0 - suc m = omega arith in ap zeros e
drop_zeros (suc m) (suc n) = let e : n - m ≡ suc n - suc m = omega arith in drop_zeros m n ∙ ap zeros e
