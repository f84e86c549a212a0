-- Tables and columns without sets: what 6 asks of a table, the letters that its sides match and the column that a pair takes are what they were.
use Prim.Native.Nat.{ℕ, zero, suc, ◌+◌, ◌*◌, ◌<◌, ◌≤◌}
use native.Mathlib.Omega.{arith}
use mathlib.Core.Bool.{Bool, true, false, ◌&&◌, ◌||◌, not, cond}
use mathlib.Core.Path.{◌≡◌, refl, ap, ap₂, ◌∙◌, subst, fun_ext}
use mathlib.Core.List.{List, [], ◌∷◌, map, Memᴰ}
use lib.ListN.{take, drop}
use lib.Seq.{get_or-take, get_or-drop}
use lib.Dec.{T, leb, ltb, eqb, eqb→eq, leb→le}
use borrow.Author.Tests.{le-ltb, lt-leb}
use native.Mathlib.Decide.{dec_lt}
use Rattle.model.specs.Lists.{below, every, count, first, within, is_zero, byte}
use Rattle.model.specs.RuleTables.{Pair, names_set, is_side, is_table, column, column_count, state_count, marks_at, rows_at, table_end, matches_side, matches, takes_column, column_for}
use Rattle.model.proofs.Booleans.{and_out, out4, not_out, left_false, right_false, within_below, within_above}
use Rattle.model.proofs.Lists.{below_from, every_same, every_map, map_same}
use Rattle.without_sets.specs.Plain.{is_plain_table, plain_side, plain_matches, plain_takes, plain_column_for}

-- no side names a set where there is none
plain_is_side : (letters side : ℕ) → is_side letters 0 side ≡ (leb side letters || eqb side 255)
unfolding is_side
plain_is_side letters side = go (leb side letters || eqb side 255) (leb 128 side && ltb side 128) (neither (dec_lt side 128))
  where
    neither : Dec (side < 128) → (leb 128 side && ltb side 128) ≡ false
    neither (yes l) = left_false (leb 128 side) (ltb side 128) (lt-leb 128 side l)
    neither (no l) = right_false (leb 128 side) (ltb side 128) (le-ltb side 128 (omega arith))

    go : (a b : Bool) → b ≡ false → (a || b) ≡ a
    go true b e = refl
    go false b e = e

pub plain_is_table : (t : List ℕ) (letters : ℕ) → is_table t letters 0 ≡ is_plain_table t letters
unfolding is_table
plain_is_table t letters =
    ap
    (λ (sides : Bool).
    within 1 16 (column_count t)
    && within 1 24 (state_count t)
    && sides
    && every (λ b. leb b 1) (take (state_count t) (drop (marks_at t) t))
    && every (λ b. leb b (state_count t)) (take (column_count t * state_count t) (drop (rows_at t) t))
    && every is_zero (drop (table_end t) t))
    (every_same (is_side letters 0) (λ b. leb b letters || eqb b 255) (take (2 * column_count t) (drop 2 t)) (λ b m. plain_is_side letters b))

-- up to 120 letters their numbers name no set, nor does "any"
side_names_none : (letters side : ℕ) → letters ≤ 120 → T (is_side letters 0 side) → T (not (names_set side))
side_names_none letters side l t = go (leb side letters) (eqb side 255) refl refl (rw (plain_is_side letters side) at t)
  where
    go : (a b : Bool) → leb side letters ≡ a → eqb side 255 ≡ b → T (a || b) → T (not (names_set side))
    go true b e f t = let s : side ≤ letters = leb→le side letters (rw e tt) in rw (within_below 128 158 side (omega arith)) tt
    go false true e f t = let s : side ≡ 255 = eqb→eq side 255 (rw f tt) in rw (within_above 128 158 side (omega arith)) tt
    go false false e f t = absurd t

-- a byte of a list whose bytes pass a test that 0 passes too, at any place
byte_passes : (f : ℕ → Bool) → T (f 0) → (l : List ℕ) → T (every f l) → (i : ℕ) → T (f (byte l i))
byte_passes f z [] t i = z
byte_passes f z (x ∷ l) t zero = (and_out (f x) (every f l) t).0
byte_passes f z (x ∷ l) t (suc i) = byte_passes f z l (and_out (f x) (every f l) t).1 i

plain_side_lem : (sets : List (List ℕ)) (side letter : ℕ) → T (not (names_set side)) → matches_side sets side letter ≡ plain_side side letter
unfolding matches_side
plain_side_lem sets side letter t = rw (not_out (names_set side) t) refl

-- the first that passes, by a test that is the same at each member
first_same : {A : Type 0} (f h : A → Bool) (xs : List A) (d : A) → ((x : A) → Memᴰ x xs → f x ≡ h x) → first f xs d ≡ first h xs d
first_same f h [] d e = refl
first_same {A} f h (x ∷ xs) d e = ap₂ (λ (b : Bool) (y : A). cond b x y) (e x (Memᴰ.head refl)) (first_same f h xs d (λ y m. e y (Memᴰ.tail m)))

-- a table that 6 lets pass where there are no sets and no more letters than there may be
module _ (t : List ℕ) (letters : ℕ) (few : letters ≤ 120) (right : T (is_table t letters 0)) where
  abbrev side_bytes : List ℕ
  side_bytes = take (2 * column_count t) (drop 2 t)

  sides_plain : T (every (λ b. not (names_set b)) side_bytes)
  unfolding is_table
  sides_plain =
      let u = out4
      (within 1 16 (column_count t) && within 1 24 (state_count t) && every (is_side letters 0) side_bytes)
      (every (λ b. leb b 1) (take (state_count t) (drop (marks_at t) t)))
      (every (λ b. leb b (state_count t)) (take (column_count t * state_count t) (drop (rows_at t) t)))
      (every is_zero (drop (table_end t) t))
      right in
      every_map (is_side letters 0) (λ b. not (names_set b)) side_bytes (λ b m. side_names_none letters b few)
      (and_out (within 1 16 (column_count t) && within 1 24 (state_count t)) (every (is_side letters 0) side_bytes) u.0).1

  -- no side of a column names a set
  byte_plain : (i : ℕ) → i < 2 * column_count t → T (not (names_set (byte t (2 + i))))
  byte_plain i l =
      subst (λ (b : ℕ). T (not (names_set b))) (get_or-take (2 * column_count t) (drop 2 t) i 0 l ∙ get_or-drop 2 t i 0)
      (byte_passes (λ b. not (names_set b)) tt side_bytes sides_plain i)

  module _ (sets : List (List ℕ)) where
    -- so a column matches what it matched, a pair takes the column that it took, and so do all
    column_plain : (c : ℕ) → c < column_count t → matches sets (column t c) ≡ plain_matches (column t c)
    unfolding matches column
    column_plain c l =
        fun_ext
        (λ (p : Pair).
        ap₂ (λ (a b : Bool). a && b)
        (plain_side_lem sets (byte t (2 + 2 * c)) p.lexical (byte_plain (2 * c) (omega arith)))
        (plain_side_lem sets (byte t (3 + 2 * c)) p.surface (subst (λ (i : ℕ). T (not (names_set (byte t i)))) (omega arith) (byte_plain (2 * c + 1) (omega arith)))))

    module _ (ps : List Pair) where
      takes_plain : (p : Pair) (c : ℕ) → c < column_count t → takes_column sets ps t p c ≡ plain_takes ps t p c
      unfolding takes_column
      takes_plain p c l =
          ap₂ (λ (a b : Bool). a && b) (ap (λ (f : Pair → Bool). f p) (column_plain c l))
          (every_same
          (λ d. eqb d c || not (matches sets (column t d) p) || ltb (count (matches sets (column t c)) ps) (count (matches sets (column t d)) ps))
          (λ d. eqb d c || not (plain_matches (column t d) p) || ltb (count (plain_matches (column t c)) ps) (count (plain_matches (column t d)) ps))
          (below (column_count t))
          (λ d m. ap₂ (λ (f g : Pair → Bool). eqb d c || not (g p) || ltb (count f ps) (count g ps)) (column_plain c l) (column_plain d (below_from (column_count t) d m))))

      column_for_plain : (p : Pair) → column_for sets ps t p ≡ plain_column_for ps t p
      unfolding column_for
      column_for_plain p = first_same (takes_column sets ps t p) (plain_takes ps t p) (below (column_count t)) (column_count t) (λ c m. takes_plain p c (below_from (column_count t) c m))

      pub columns_plain : map (column_for sets ps t) ps ≡ map (plain_column_for ps t) ps
      columns_plain = map_same (column_for sets ps t) (plain_column_for ps t) ps (λ p m. column_for_plain p)
