-- The ways on of an entry as a number of 64 bits, and what test 8 asks of it.
use Prim.Native.Nat.{ℕ, zero, suc, ◌+◌, ◌-◌, ◌/◌, ◌%◌, ◌^◌, ◌<◌, ◌≤◌}
use native.Mathlib.Nat.{zero-add, suc-add, pow-succ'}
use native.Mathlib.Omega.{arith}
use native.Mathlib.Decide.{dec_lt, ℕ_discrete}
use mathlib.Core.Bool.{Bool, true, false, ◌&&◌, ◌||◌, not, cond}
use mathlib.Core.Path.{◌≡◌, refl, sym, ap, ◌∙◌, subst}
use mathlib.Core.List.{List, [], ◌∷◌}
use lib.ListN.{drop}
use lib.Dec.{T, leb, ltb, eqb, ltb→lt, lt→ltb, eqb→eq, T_not, not_T}
use borrow.Author.Tests.{le-ltb, eq-eqb, ne_eqb}
use Rattle.model.specs.Lists.{below, every, any, byte, bit}
use Rattle.model.specs.Blocks.{entry_width}
use Rattle.model.specs.RuleTables.{in_set}
use Rattle.model.specs.Lexicon.{may_stop, goes_to, right_ways}
use Rattle.model.proofs.Booleans.{and_out, out3, of_true, not_both, right_true, right_false, left_false, true_of, false_of, not_out, left_or, right_or, eq→eqb}
use Rattle.model.proofs.Lists.{below_has, below_from, every_at, every_in, any_has, any_from, bit_none}
use Rattle.digits.specs.Ways.{number_of, Names}
use Rattle.lexicon.specs.Sole.{Sole, WayOf}
use Rattle.digits.proofs.Bits.{bytes_bit, power_bit, digits_few, no_digits}

module _ (l : List ℕ) where
  abbrev eight : List ℕ
  eight = byte l 0 ∷ byte l 1 ∷ byte l 2 ∷ byte l 3 ∷ byte l 4 ∷ byte l 5 ∷ byte l 6 ∷ byte l 7 ∷ []

  eight_at : (j : ℕ) → j < 8 → byte l j ≡ byte eight j
  eight_at zero h = refl
  eight_at (suc zero) h = refl
  eight_at (suc (suc zero)) h = refl
  eight_at (suc (suc (suc zero))) h = refl
  eight_at (suc (suc (suc (suc zero)))) h = refl
  eight_at (suc (suc (suc (suc (suc zero))))) h = refl
  eight_at (suc (suc (suc (suc (suc (suc zero)))))) h = refl
  eight_at (suc (suc (suc (suc (suc (suc (suc zero))))))) h = refl
  eight_at (suc (suc (suc (suc (suc (suc (suc (suc j)))))))) h = absurd (omega arith)

  -- eight bytes as the number that is made of them
  pub eight_names : ((i : ℕ) → byte l i < 256) → Names (in_set l) (number_of eight)
  unfolding in_set
  eight_names small x few =
      let j : x / 8 < 8 = omega arith in
      ap (λ (n : ℕ). bit n (x % 8)) (eight_at (x / 8) j) ∙ bytes_bit eight (λ i h. subst (λ (n : ℕ). n < 256) (eight_at i h) (small i)) x

-- a number with no digit from k up to k + m is one of k digits
digits_low : (k m n : ℕ) → n < 2 ^ (k + m) → ((x : ℕ) → k ≤ x → x < k + m → bit n x ≡ false) → n < 2 ^ k
digits_low zero m n few none =
    let z = no_digits m n (subst (λ (i : ℕ). n < 2 ^ i) (zero-add m) few) (λ x l. none x (omega arith) (omega arith)) in
    omega arith
digits_low (suc k) m n few none =
    let f : n < 2 ^ suc (k + m) = subst (λ (i : ℕ). n < 2 ^ i) (suc-add k m) few in
    let r = digits_low k m (n / 2) (omega (arith, pow-succ' 2 (k + m))) (λ x l h. none (suc x) (omega arith) (omega arith)) in
    omega (arith, pow-succ' 2 k)

both_ways : (a b : Bool) → (T a → T b) → (T b → T a) → a ≡ b
both_ways true b f g = sym (true_of b (f tt))
both_ways false b f g = sym (false_of b g)

-- an entry of form 2 by its mark and the number that its last eight bytes make
module _ (l : List ℕ) (bits : ℕ) (names : Names (in_set (drop 16 l)) bits) (small : bits < 2 ^ 64) where
  goes_is : (x : ℕ) → x < 64 → goes_to l 2 x ≡ bit bits x
  unfolding goes_to
  goes_is x few = names x few

  named_is : (lexicons : ℕ) → lexicons ≤ 64 → ltb bits (2 ^ lexicons) ≡ every (λ x. ltb x lexicons || not (goes_to l 2 x)) (below 64)
  named_is lexicons few =
      both_ways (ltb bits (2 ^ lexicons)) (every (λ x. ltb x lexicons || not (goes_to l 2 x)) (below 64))
      (λ t. every_in (λ x. ltb x lexicons || not (goes_to l 2 x)) (below 64) (λ x m. to x (below_from 64 x m) (ltb→lt bits (2 ^ lexicons) t) (dec_lt x lexicons)))
      (λ t. lt→ltb bits (2 ^ lexicons) (digits_low lexicons (64 - lexicons) bits (subst (λ (i : ℕ). bits < 2 ^ i) all small)
      (λ x a b. from x a (omega arith) (every_at (λ x. ltb x lexicons || not (goes_to l 2 x)) (below 64) (below_has 64 x (omega arith)) t))))
    where
      all : 64 ≡ lexicons + (64 - lexicons)
      all = omega arith

      to : (x : ℕ) → x < 64 → bits < 2 ^ lexicons → Dec (x < lexicons) → T (ltb x lexicons || not (goes_to l 2 x))
      to x h f (yes k) = left_or (ltb x lexicons) (not (goes_to l 2 x)) (lt→ltb x lexicons k)
      to x h f (no k) = right_or (ltb x lexicons) (not (goes_to l 2 x)) (subst (λ (b : Bool). T (not b)) (sym (goes_is x h ∙ digits_few lexicons bits f x (omega arith))) tt)

      from : (x : ℕ) → lexicons ≤ x → x < 64 → T (ltb x lexicons || not (goes_to l 2 x)) → bit bits x ≡ false
      from x a h t = sym (goes_is x h) ∙ not_out (goes_to l 2 x) (subst (λ (b : Bool). T (b || not (goes_to l 2 x))) (le-ltb x lexicons a) t)

  some_is : not (eqb bits 0) ≡ any (goes_to l 2) (below 64)
  some_is =
      both_ways (not (eqb bits 0)) (any (goes_to l 2) (below 64))
      (λ t. go (any (goes_to l 2) (below 64)) refl t)
      (λ t. let u = any_from (goes_to l 2) (below 64) t in not_zero u.0 (subst T (goes_is u.0 (below_from 64 u.0 u.1)) u.2))
    where
      go : (b : Bool) → any (goes_to l 2) (below 64) ≡ b → T (not (eqb bits 0)) → T b
      go true e t = tt
      go false e t = absurd (not_zero_out (no_digits 64 bits small (λ x h. sym (goes_is x h) ∙ false_of (goes_to l 2 x) (λ s. subst T e (any_has (goes_to l 2) (below 64) (below_has 64 x h) s)))))
        where
          not_zero_out : bits ≡ 0 → ⊥
          not_zero_out z = T_not (eqb bits 0) t (eq→eqb bits 0 z)

      not_zero : (x : ℕ) → T (bit bits x) → T (not (eqb bits 0))
      not_zero x t = not_T (eqb bits 0) (λ z. subst T (ap (λ (n : ℕ). bit n x) (eqb→eq bits 0 z) ∙ bit_none x) t)

  -- what test 8 asks of it
  pub many_is : (lexicons : ℕ) → lexicons ≤ 64 → (leb (byte l 13) 1 && ltb bits (2 ^ lexicons) && (eqb (byte l 13) 1 || not (eqb bits 0))) ≡ right_ways l 2 lexicons
  unfolding right_ways may_stop
  many_is lexicons few = λ i. leb (byte l 13) 1 && named_is lexicons few i && (eqb (byte l 13) 1 || some_is i)

-- by form
pub ways_form : (l : List ℕ) (form lexicons : ℕ) → (form ≡ 2 → ⊥) → right_ways l form lexicons ≡ (ltb (byte l 13) lexicons || eqb (byte l 13) 255)
unfolding right_ways
ways_form l form lexicons n = rw (ne_eqb form 2 n) refl

pub width_by : (form : ℕ) → (16 ≤ entry_width form) × (form ≡ 2 → entry_width form ≡ 24)
width_by form = (go (eqb form 2), λ e. rw (eq-eqb form 2 e) refl)
  where
    go : (b : Bool) → 16 ≤ cond b 24 16
    go true = omega arith
    go false = omega arith

-- the ways on of an entry of form 1, by its byte
module _ (l : List ℕ) (form : ℕ) (other : form ≡ 2 → ⊥) where
  stop_one_lem : may_stop l form ≡ eqb (byte l 13) 255
  unfolding may_stop
  stop_one_lem = ap (λ (b : Bool). eqb (byte l 13) (cond b 1 255)) (ne_eqb form 2 other)

  goes_one : (x : ℕ) → goes_to l form x ≡ (eqb (byte l 13) x && not (may_stop l form))
  unfolding goes_to
  goes_one x = ap (λ (b : Bool). cond b (in_set (drop 16 l) x) (eqb (byte l 13) x && not (may_stop l form))) (ne_eqb form 2 other)

  pub end_stops : byte l 13 ≡ 255 → may_stop l form ≡ true
  end_stops e = stop_one_lem ∙ eq-eqb (byte l 13) 255 e

  pub end_names : byte l 13 ≡ 255 → Names (goes_to l form) 0
  end_names e x few = goes_one x ∙ right_false (eqb (byte l 13) x) (not (may_stop l form)) (ap not (end_stops e)) ∙ sym (bit_none x)

  pub on_stops : (byte l 13 ≡ 255 → ⊥) → may_stop l form ≡ false
  on_stops n = stop_one_lem ∙ ne_eqb (byte l 13) 255 n

  pub on_names : (byte l 13 ≡ 255 → ⊥) → Names (goes_to l form) (2 ^ byte l 13)
  on_names n x few = goes_one x ∙ right_true (eqb (byte l 13) x) (not (may_stop l form)) (ap not (on_stops n)) ∙ sym (power_bit (byte l 13) x)

  pub far_names : (byte l 13 ≡ 255 → ⊥) → 64 ≤ byte l 13 → Names (goes_to l form) 0
  far_names n far x few = goes_one x ∙ left_false (eqb (byte l 13) x) (not (may_stop l form)) (ne_eqb (byte l 13) x (λ e. omega arith)) ∙ sym (bit_none x)

-- and of form 2
module _ (l : List ℕ) (form : ℕ) (two : form ≡ 2) where
  pub many_stops : may_stop l form ≡ eqb (byte l 13) 1
  unfolding may_stop
  many_stops = ap (λ (b : Bool). eqb (byte l 13) (cond b 1 255)) (eq-eqb form 2 two)

  pub many_names : (x : ℕ) → goes_to l form x ≡ in_set (drop 16 l) x
  unfolding goes_to
  many_names x = ap (λ (b : Bool). cond b (in_set (drop 16 l) x) (eqb (byte l 13) x && not (may_stop l form))) (eq-eqb form 2 two)

-- after test 8, the lexicons that an entry's number names are lexicons of the image
module _ (l : List ℕ) (form lexicons : ℕ) (right : T (right_ways l form lexicons)) where
  goes_many : form ≡ 2 → (x : ℕ) → x < 64 → T (goes_to l form x) → x < lexicons
  unfolding right_ways
  goes_many two x few t =
      let two-right = rw (eq-eqb form 2 two) at right in
      let parts = out3 (leb (byte l 13) 1) (every (λ x. ltb x lexicons || not (goes_to l 2 x)) (below 64)) (may_stop l 2 || any (goes_to l 2) (below 64)) two-right in
      either (ltb x lexicons) refl (every_at (λ x. ltb x lexicons || not (goes_to l 2 x)) (below 64) (below_has 64 x few) parts.1)
    where
      either : (b : Bool) → ltb x lexicons ≡ b → T (b || not (goes_to l 2 x)) → x < lexicons
      either true e u = ltb→lt x lexicons (of_true (ltb x lexicons) e)
      either false e u = absurd (not_both (goes_to l 2 x) (subst (λ (n : ℕ). T (goes_to l n x)) two t) u)

  goes_one_way : (form ≡ 2 → ⊥) → (x : ℕ) → x < 64 → T (goes_to l form x) → x < lexicons
  goes_one_way other x few t =
      let same = eqb→eq (byte l 13) x (and_out (eqb (byte l 13) x) (not (may_stop l form)) (subst T (goes_one l form other x) t)).0 in
      either same (ltb (byte l 13) lexicons) refl (subst T (ways_form l form lexicons other) right)
    where
      either : byte l 13 ≡ x → (b : Bool) → ltb (byte l 13) lexicons ≡ b → T (b || eqb (byte l 13) 255) → x < lexicons
      either same true e u = let k = ltb→lt (byte l 13) lexicons (of_true (ltb (byte l 13) lexicons) e) in omega arith
      either same false e u = let k = eqb→eq (byte l 13) 255 u in absurd (omega arith)

  pub goes_known : (x : ℕ) → x < 64 → T (goes_to l form x) → x < lexicons
  goes_known x few t = go (ℕ_discrete form 2)
    where
      go : Dec (form ≡ 2) → x < lexicons
      go (yes e) = goes_many e x few t
      go (no n) = goes_one_way n x few t

  pub bits_known : (bits : ℕ) → bits < 2 ^ 64 → Names (goes_to l form) bits → (x : ℕ) → T (bit bits x) → x < lexicons
  bits_known bits small names x t = go (dec_lt x 64)
    where
      go : Dec (x < 64) → x < lexicons
      go (yes few) = goes_known x few (subst T (sym (names x few)) t)
      go (no l) = absurd (subst T (digits_few 64 bits small x (omega arith)) t)

-- the ways on in one number
pub way_sole : (l : List ℕ) (form bits : ℕ) (stop : Bool) → stop ≡ may_stop l form → Names (goes_to l form) bits → (way : ℕ) → Sole bits stop way → WayOf l form way
way_sole l form bits stop e names way s = record {
  in_bound = s.in_bound;
  ends = λ w. (sym e ∙ (s.ends w).0, λ x few. names x few ∙ ap (λ (n : ℕ). bit n x) (s.ends w).1 ∙ bit_none x);
  goes = λ w. (sym e ∙ (s.goes w).0, λ x few. names x few ∙ ap (λ (n : ℕ). bit n x) (s.goes w).1 ∙ power_bit way x);
}
