-- What a table remembers after a slot is stored: the other slots are as they were.
use Prim.Native.Nat.{ℕ, suc, ◌+◌, ◌*◌, ◌-◌, ◌<◌, ◌≤◌}
use native.Mathlib.Nat.{le_refl, mul-suc, mul-le-mul}
use native.Mathlib.Decide.{dec_lt, ℕ_discrete}
use native.Mathlib.Omega.{arith}
use mathlib.Core.Path.{◌≡◌, sym, ap, ◌∙◌, subst}
use mathlib.Core.List.{List, ◌++◌, append_assoc}
use lib.ListN.{length, take, drop, length-append, length-take, length-drop, take-append-drop}
use lib.Seq.{take_at, drop_at, take-append-le, drop-append-le, drop-append-add}
use Rattle.model.specs.Lists.{part}
use Rattle.model.specs.Query.{Query}
use Rattle.listing.specs.declared.place.Place.{Place}
use Rattle.dead.specs.Dead.{DeadAt, width_of, KeyOf, Remembered}
use Rattle.dead.proofs.Keys.{same_node, dead_same}

-- a table with another slot j
abbrev pub stored : ℕ → List ℕ → ℕ → List ℕ → List ℕ
stored w table j key = take (w * j) table ++ (key ++ drop w (drop (w * j) table))

module _ (w : ℕ) where
  -- slots lie one after the other
  apart : (j k : ℕ) → j < k → w * j + w ≤ w * k
  apart j k h = omega (arith, mul-suc w j, mul-le-mul {n₁ = w} {m₁ = suc j} {n₂ = w} {m₂ = k} (le_refl w) h)

  -- a slot that lies in the front, and one that lies past a front of this length
  in_front : (p l : List ℕ) (k : ℕ) → w * k + w ≤ length p → part w (p ++ l) k ≡ part w p k
  in_front p l k h =
      ap (take w) (drop-append-le (w * k) p l (omega arith))
      ∙ take-append-le w (drop (w * k) p) l (omega (arith, length-drop (w * k) p))

  past : (p r l : List ℕ) (k : ℕ) → length p ≡ length r → length p ≤ w * k → part w (p ++ l) k ≡ part w (r ++ l) k
  past p r l k same h =
      let e : w * k ≡ length p + (w * k - length p) = omega arith in
      let f : w * k ≡ length r + (w * k - length p) = omega arith in
      let n = w * k - length p in
      ap (λ (m : ℕ). take w (drop m (p ++ l))) e
      ∙ ap (take w) (drop-append-add p l n ∙ sym (drop-append-add r l n))
      ∙ ap (λ (m : ℕ). take w (drop m (r ++ l))) (sym f)

  module _ (table key : List ℕ) (j : ℕ) (inside : w * j + w ≤ length table) (long : length key ≡ w) where
    front_long : length (take (w * j) table) ≡ w * j
    front_long = omega (arith, length-take (w * j) table)

    length_stored : length (stored w table j key) ≡ length table
    length_stored = simp (length-append, length-take, length-drop) (omega arith)

    slot_stored : part w (stored w table j key) j ≡ key
    slot_stored =
        ap (take w) (drop_at (take (w * j) table) (key ++ drop w (drop (w * j) table)) (w * j) front_long)
        ∙ take_at key (drop w (drop (w * j) table)) w long

    slot_before : (k : ℕ) → k < j → part w (stored w table j key) k ≡ part w table k
    slot_before k h =
        let p = take (w * j) table in
        let fits : w * k + w ≤ length p = omega (arith, front_long, apart k j h) in
        in_front p _ k fits ∙ sym (in_front p (drop (w * j) table) k fits) ∙ ap (λ (l : List ℕ). part w l k) (take-append-drop (w * j) table)

    slot_after : (k : ℕ) → j < k → part w (stored w table j key) k ≡ part w table k
    slot_after k h =
        let p = take (w * j) table in
        let old = take w (drop (w * j) table) in
        let l = drop w (drop (w * j) table) in
        let a : length (p ++ key) ≡ w * j + w = omega (arith, length-append p key, front_long) in
        let b : length (p ++ old) ≡ w * j + w = simp (length-append, length-take, length-drop) (omega arith) in
        let whole : (p ++ old) ++ l ≡ table = append_assoc p old l ∙ ap (λ (m : List ℕ). p ++ m) (take-append-drop w (drop (w * j) table)) ∙ take-append-drop (w * j) table in
        ap (λ (m : List ℕ). part w m k) (sym (append_assoc p key l))
        ∙ past (p ++ key) (p ++ old) l k (a ∙ sym b) (omega (arith, apart j k h))
        ∙ ap (λ (m : List ℕ). part w m k) whole

module _ (image : List ℕ) (q : Query) where
  abbrev w : ℕ
  w = width_of image

  -- a table without a slot remembers nothing
  pub no_slot : (table : List ℕ) → length table < 40 → Remembered image q table
  unfolding Remembered
  no_slot table h large = absurd (omega arith)

  -- slot k is looked at for a node, whose numbers are the key
  module _ (table : List ℕ) (k : ℕ) (large : 40 ≤ length table) (inside : w * k + w ≤ length table)
      (place : Place) (entries pairs : ℕ) (key : List ℕ) (is : KeyOf image place entries pairs key) where
    -- what a slot has is remembered
    pub recalled : part w table k ≡ key → Remembered image q table → DeadAt image q place entries pairs
    unfolding Remembered
    recalled e known = known large k inside place entries pairs (subst (KeyOf image place entries pairs) (sym e) is)

    -- a dead node's numbers may be stored in any slot
    pub remembers : length key ≡ w → Remembered image q table → DeadAt image q place entries pairs → Remembered image q (stored w table k key)
    unfolding Remembered
    remembers long known dead _ i fits other es ps e = go (ℕ_discrete i k) (dec_lt i k)
      where
        fits' : w * i + w ≤ length table
        fits' = omega (arith, length_stored w table key k inside long)

        go : Dec (i ≡ k) → Dec (i < k) → DeadAt image q other es ps
        go (yes at) h =
            let same : key ≡ part w (stored w table k key) i = sym (slot_stored w table key k inside long) ∙ ap (part w (stored w table k key)) (sym at) in
            dead_same image place other entries es pairs ps q (same_node image place other entries es pairs ps is (subst (KeyOf image other es ps) (sym same) e)) dead
        go (no at) (yes h) = known large i fits' other es ps (subst (KeyOf image other es ps) (slot_before w table key k inside long i h) e)
        go (no at) (no h) = known large i fits' other es ps (subst (KeyOf image other es ps) (slot_after w table key k inside long i (omega arith)) e)
