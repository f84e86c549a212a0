-- One pass over n columns finds the one that matches and is narrower than every other that matches.
-- Over plain functions: which columns match, and how broad each is. `top` is broader than all.
use Prim.Native.Nat.{ℕ, zero, suc, ◌+◌, ◌<◌, ◌≤◌}
use native.Mathlib.Omega.{arith}
use native.Mathlib.Decide.{ℕ_discrete}
use mathlib.Core.Bool.{Bool, true, false, ◌&&◌, ◌||◌, not, cond, true≢false}
use mathlib.Core.Path.{◌≡◌, refl, sym, ap, subst, subst₂, ◌∙◌}
use mathlib.Core.List.{List, [], ◌∷◌, ◌++◌, Memᴰ}
use lib.Dec.{T, ltb, eqb}
use borrow.Author.Count.{below_more}
use borrow.Author.Tests.{eq-eqb, ne_eqb, lt-ltb, le-ltb}
use Rattle.model.specs.Lists.{below, every, first}
use Rattle.model.proofs.Booleans.{left_true, left_false, right_false, true_of, of_true}
use Rattle.model.proofs.Lists.{every_in, every_fails, below_from}

-- the first number that passes: of a list in two parts, where none passes, and where one does
module _ (f : ℕ → Bool) where
  first_append : (xs ys : List ℕ) (d : ℕ) → first f (xs ++ ys) d ≡ first f xs (first f ys d)
  first_append [] ys d = refl
  first_append (x ∷ xs) ys d = ap (cond (f x) x) (first_append xs ys d)

  first_none : (n d : ℕ) → ((c : ℕ) → c < n → f c ≡ false) → first f (below n) d ≡ d
  first_none zero d none = refl
  first_none (suc n) d none =
      first_append (below n) (n ∷ []) d
      ∙ ap (λ (b : Bool). first f (below n) (cond b n d)) (none n (omega arith))
      ∙ first_none n d (λ c h. none c (omega arith))

  first_one : (n b d : ℕ) → b < n → f b ≡ true → ((c : ℕ) → c < n → (c ≡ b → ⊥) → f c ≡ false) → first f (below n) d ≡ b
  first_one zero b d h t others = absurd (omega arith)
  first_one (suc n) b d h t others = first_append (below n) (n ∷ []) d ∙ go (ℕ_discrete b n) (λ l. first_one n b d l t (λ c k. others c (omega arith)))
    where
      go : Dec (b ≡ n) → (b < n → first f (below n) d ≡ b) → first f (below n) (cond (f n) n d) ≡ b
      go (yes e) r = ap (λ (x : Bool). first f (below n) (cond x n d)) (ap f (sym e) ∙ t) ∙ first_none n n (λ c k. others c (omega arith) (omega arith)) ∙ sym e
      go (no u) r = ap (λ (x : Bool). first f (below n) (cond x n d)) (others n (omega arith) (λ e. u (sym e))) ∙ r (omega arith)

  pub first_most : (n m d : ℕ) → n ≤ m → d ≤ m → first f (below n) d ≤ m
  first_most zero m d h k = k
  first_most (suc n) m d h k = subst (λ (x : ℕ). x ≤ m) (sym (first_append (below n) (n ∷ []) d)) (first_most n m (cond (f n) n d) (omega arith) (go (f n)))
    where
      go : (b : Bool) → cond b n d ≤ m
      go true = omega arith
      go false = k

module _ (matching : ℕ → Bool) (broad : ℕ → ℕ) where
  -- column d does not stand in the way of column c
  abbrev pub yields : ℕ → ℕ → Bool
  yields c d = eqb d c || not (matching d) || ltb (broad c) (broad d)

  module _ (n : ℕ) where
    abbrev pub taken : ℕ → Bool
    taken c = matching c && every (yields c) (below n)

    -- the column taken, n where there is none
    abbrev pub narrowest : ℕ
    narrowest = first taken (below n) n

  yields_same : (c d : ℕ) → d ≡ c → yields c d ≡ true
  yields_same c d e = ap (λ (x : Bool). x || not (matching d) || ltb (broad c) (broad d)) (eq-eqb d c e)

  yields_other : (c d : ℕ) → matching d ≡ false → yields c d ≡ true
  yields_other c d e = go (eqb d c) (matching d) e
    where
      go : (x y : Bool) → y ≡ false → (x || not y || ltb (broad c) (broad d)) ≡ true
      go true y e = refl
      go false y e = ap (λ (z : Bool). not z || ltb (broad c) (broad d)) e

  yields_broader : (c d : ℕ) → broad c < broad d → yields c d ≡ true
  yields_broader c d h = go (eqb d c || not (matching d)) (ltb (broad c) (broad d)) (lt-ltb (broad c) (broad d) h)
    where
      go : (x y : Bool) → y ≡ true → (x || y) ≡ true
      go true y e = refl
      go false y e = e

  stands : (c d : ℕ) → (d ≡ c → ⊥) → matching d ≡ true → broad d ≤ broad c → yields c d ≡ false
  stands c d u m h =
      ap (λ (x : Bool). x || not (matching d) || ltb (broad c) (broad d)) (ne_eqb d c u)
      ∙ ap (λ (x : Bool). not x || ltb (broad c) (broad d)) m
      ∙ le-ltb (broad c) (broad d) h

  module _ (n : ℕ) where
    -- a column that does not match, or that another stands in the way of, is not taken
    unmatched : (c : ℕ) → matching c ≡ false → taken n c ≡ false
    unmatched c e = left_false (matching c) (every (yields c) (below n)) e

    beaten : (c d : ℕ) → d < n → (d ≡ c → ⊥) → matching d ≡ true → broad d ≤ broad c → taken n c ≡ false
    beaten c d h u m k = right_false (matching c) (every (yields c) (below n)) (every_fails (yields c) n d h (stands c d u m k))

    wins : (c : ℕ) → matching c ≡ true → ((d : ℕ) → d < n → (d ≡ c → ⊥) → matching d ≡ true → broad c < broad d) → taken n c ≡ true
    wins c m less = left_true (matching c) (every (yields c) (below n)) m ∙ true_of (every (yields c) (below n)) (every_in (yields c) (below n) each)
      where
        each : (d : ℕ) → Memᴰ d (below n) → T (yields c d)
        each d k = of_true (yields c d) (go (ℕ_discrete d c) (matching d) refl)
          where
            go : Dec (d ≡ c) → (b : Bool) → matching d ≡ b → yields c d ≡ true
            go (yes e) b q = yields_same c d e
            go (no u) true q = yields_broader c d (less d (below_from n d k) u q)
            go (no u) false q = yields_other c d q

  -- what is known after c columns: the column b is the narrowest that matches, n where there is none or two; v is its breadth, `top` where there is none
  module _ (n top : ℕ) where
    pub data NarrowestSoFar (c b v : ℕ) : Type 0 where
      none : b ≡ n → v ≡ top → ((d : ℕ) → d < c → matching d ≡ false) → NarrowestSoFar c b v
      one : b < c → matching b ≡ true → broad b ≡ v → ((d : ℕ) → d < c → (d ≡ b → ⊥) → matching d ≡ true → v < broad d) → NarrowestSoFar c b v
      tied : b ≡ n → (x y : ℕ) → x < c → y < c → (x ≡ y → ⊥) → matching x ≡ true → matching y ≡ true → broad x ≡ v → broad y ≡ v → ((d : ℕ) → d < c → matching d ≡ true → v ≤ broad d) → NarrowestSoFar c b v

    -- no column passed that matches is narrower
    least : {c b v : ℕ} → NarrowestSoFar c b v → (d : ℕ) → d < c → matching d ≡ true → v ≤ broad d
    least (none e q f) d h m = absurd (true≢false (sym m ∙ f d h))
    least {b = b} {v = v} (one h m e less) d k w = go (ℕ_discrete d b)
      where
        go : Dec (d ≡ b) → v ≤ broad d
        go (yes q) = let r : broad d ≡ broad b = ap broad q in omega arith
        go (no u) = let r = less d k u w in omega arith
    least (tied e x y p q u m k r s f) d h w = f d h w

    pub pass_none : NarrowestSoFar 0 n top
    pass_none = none refl refl (λ d h. absurd (omega arith))

    module _ (c b v : ℕ) where
      -- a column that does not match changes nothing
      pub pass_unmatched : matching c ≡ false → NarrowestSoFar c b v → NarrowestSoFar (c + 1) b v
      pass_unmatched m (none e q f) = none e q (below_more _ c f m)
      pass_unmatched m (one h w e less) = one (omega arith) w e (below_more _ c less (λ u k. absurd (true≢false (sym k ∙ m))))
      pass_unmatched m (tied e x y p q u k w r s f) = tied e x y (omega arith) (omega arith) u k w r s (below_more _ c f (λ l. absurd (true≢false (sym l ∙ m))))

      -- a narrower one is taken
      pub pass_narrower : matching c ≡ true → broad c < v → NarrowestSoFar c b v → NarrowestSoFar (c + 1) c (broad c)
      pass_narrower m h p =
          one (omega arith) m refl
          (below_more _ c (λ d k u w. let l = least p d k w in omega arith) (λ u w. absurd (u refl)))

      -- one as broad: two are narrowest, and none is taken
      pub pass_tie : matching c ≡ true → broad c ≡ v → broad c < top → NarrowestSoFar c b v → NarrowestSoFar (c + 1) n v
      pass_tie m e h (none q r f) = absurd (omega arith)
      pass_tie m e h (one l w r less) = tied refl b c (omega arith) (omega arith) (λ q. omega arith) w m r e (below_more _ c (least (one l w r less)) (λ k. omega arith))
      pass_tie m e h (tied q x y k l u w z r s f) = tied refl x y (omega arith) (omega arith) u w z r s (below_more _ c f (λ g. omega arith))

      -- a broader one changes nothing
      pub pass_broader : matching c ≡ true → v < broad c → broad c < top → NarrowestSoFar c b v → NarrowestSoFar (c + 1) b v
      pass_broader m e h (none q r f) = absurd (omega arith)
      pass_broader m e h (one l w r less) = one (omega arith) w r (below_more _ c less (λ u k. e))
      pass_broader m e h (tied q x y k l u w z r s f) = tied q x y (omega arith) (omega arith) u w z r s (below_more _ c f (λ g. omega arith))

    -- by the values that were stored
    pub pass_read : {c b v b' v' : ℕ} → NarrowestSoFar c b v → b' ≡ b → v' ≡ v → NarrowestSoFar c b' v'
    pass_read {c} p e q = subst₂ (λ (x y : ℕ). NarrowestSoFar c x y) (sym e) (sym q) p

    -- after the last column
    pub pass_all : {b v : ℕ} → NarrowestSoFar n b v → b ≡ narrowest n
    pass_all (none e q f) = e ∙ sym (first_none (taken n) n n (λ d h. unmatched n d (f d h)))
    pass_all {b} {v} (one h m e less) = sym (first_one (taken n) n b n h (wins n b m (λ d k u w. let l = less d k u w in omega arith)) others)
      where
        others : (d : ℕ) → d < n → (d ≡ b → ⊥) → taken n d ≡ false
        others d k u = go (matching d) refl
          where
            go : (x : Bool) → matching d ≡ x → taken n d ≡ false
            go true q = let l = less d k u q in beaten n d b h (λ r. u (sym r)) m (omega arith)
            go false q = unmatched n d q
    pass_all {b} {v} (tied e x y p q u m w r s f) = e ∙ sym (first_none (taken n) n n all)
      where
        all : (d : ℕ) → d < n → taken n d ≡ false
        all d k = go (matching d) refl (ℕ_discrete x d)
          where
            go : (z : Bool) → matching d ≡ z → Dec (x ≡ d) → taken n d ≡ false
            go false i g = unmatched n d i
            go true i (yes g) = let l = f d k i in beaten n d y q (λ t. u (g ∙ sym t)) w (omega arith)
            go true i (no g) = let l = f d k i in beaten n d x p g m (omega arith)
