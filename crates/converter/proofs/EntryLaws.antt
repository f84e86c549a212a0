-- One entry in the other form: how many ways on it has, its byte 13, and its set of lexicons as eight bytes.
use Prim.Native.Nat.{ℕ, zero, suc, ◌+◌, ◌*◌, ◌-◌, ◌/◌, ◌%◌, ◌^◌, ◌<◌, ◌≤◌, min}
use native.Mathlib.Nat.{zero-add, suc-add, add-suc, add-zero, pow-succ'}
use native.Mathlib.Omega.{arith}
use native.Mathlib.Decide.{dec_lt}
use mathlib.Core.Bool.{Bool, true, false, ◌||◌, not, cond}
use mathlib.Core.Path.{◌≡◌, refl, sym, ap, ap₂, ◌∙◌, subst}
use mathlib.Core.List.{List, [], ◌∷◌, ◌++◌, append_assoc, append-nil, Memᴰ}
use lib.ListN.{length, take, drop, set, length-append, length-take, length-drop, drop_of_length-le}
use lib.Seq.{set_split, set-append_left, take-take, take_at, length-take-le}
use lib.Dec.{T, leb, ltb, eqb, eqb→eq}
use lib.Count.{ones, ones_step, count_trailing_zeros}
use lib.Arith.{mod-mul}
use lib.Pow.{shr-shr, pow_pos}
use borrow.Author.Tests.{eq-eqb, ne_eqb}
use Rattle.std.specs.Int.{w64, to_le_bytes, bytes_low_first, from_bool}
use Rattle.model.specs.Lists.{below, every, any, count, first, byte, bit}
use Rattle.model.specs.Lexicon.{may_stop, goes_to, right_ways, way_count}
use Rattle.model.proofs.Booleans.{out3}
use Rattle.model.proofs.Lists.{below_from, any_from, any_has, map_same, drop_take}
use Rattle.digits.specs.Ways.{Names}
use Rattle.digits.proofs.Bits.{lowest, digit_most, digits_few}
use Rattle.conversion.specs.Conversion.{digits_from, way_bytes, to_many, to_one, other_entry}
use Rattle.conversion.proofs.Ways.{count_more, count_alike, count_one, first_below}

-- an ending as a number
pub ending_number : (stop : Bool) → from_bool stop ≡ cond stop 1 0
ending_number true = refl
ending_number false = refl

-- how many lexicons a set names, as the machine counts
count_shift : (f : ℕ → Bool) (k : ℕ) → count f (below (suc k)) ≡ cond (f 0) 1 0 + count (λ x. f (suc x)) (below k)
count_shift f zero = refl
count_shift f (suc k) = omega (arith, count_more f (below (suc k)) (suc k), count_shift f k, count_more (λ x. f (suc x)) (below k) k)

low_digit : (n : ℕ) → ◌≡◌ {A = ℕ} (cond (bit n 0) 1 0) (n % 2)
low_digit n = go (n % 2) (omega arith)
  where
    go : (d : ℕ) → d < 2 → ◌≡◌ {A = ℕ} (cond (eqb d 1) 1 0) d
    go zero l = refl
    go (suc zero) l = refl
    go (suc (suc d)) l = absurd (omega arith)

no_ones : ones 0 ≡ 0
unfolding ones
no_ones = refl

count_bits : (k n : ℕ) → n < 2 ^ k → count (bit n) (below k) ≡ ones n
count_bits zero n few = let e : 0 ≡ n = omega arith in sym no_ones ∙ ap ones e
count_bits (suc k) n few = count_shift (bit n) k ∙ ap₂ (λ (a b : ℕ). a + b) (low_digit n) (count_bits k (n / 2) (omega (arith, pow-succ' 2 k))) ∙ sym (ones_step n)

pub count_ones : (bits : ℕ) → bits < 2 ^ 64 → count (bit bits) (below 64) ≡ ones bits
count_ones bits few = count_bits 64 bits few

-- the first that passes, where others pass alike
first_alike : (f h : ℕ → Bool) (xs : List ℕ) → ((x : ℕ) → Memᴰ x xs → f x ≡ h x) → first f xs 0 ≡ first h xs 0
first_alike f h [] e = refl
first_alike f h (x ∷ xs) e = ap₂ (λ (b : Bool) (n : ℕ). cond b x n) (e x (Memᴰ.head refl)) (first_alike f h xs (λ y m. e y (Memᴰ.tail m)))

pub first_same : (f h : ℕ → Bool) (n : ℕ) → ((x : ℕ) → x < n → f x ≡ h x) → first f (below n) 0 ≡ first h (below n) 0
first_same f h n e = first_alike f h (below n) (λ x m. e x (below_from n x m))

-- the one lexicon that a set names
sole : (f : ℕ → Bool) (bits : ℕ) → bits < 2 ^ 64 → Names f bits → T (any f (below 64)) → count f (below 64) ≤ 1 → count_trailing_zeros 64 bits ≡ first f (below 64) 0
sole f bits few names some one = go (any_from f (below 64) some)
  where
    go : (x : ℕ) × (Memᴰ x (below 64)) × T (f x) → count_trailing_zeros 64 bits ≡ first f (below 64) 0
    go (x, m, t) =
        let z = count_trailing_zeros 64 bits in
        let n : 1 ≤ bits = omega (arith, digit_most bits x (subst T (names x (below_from 64 x m)) t), pow_pos x) in
        let l = lowest 64 bits n few in
        let u = first_below f 64 some in
        inside z l.0 (dec_lt z 64) u
      where
        inside : (z : ℕ) → T (bit bits z) → Dec (z < 64) → T (f (first f (below 64) 0)) × (first f (below 64) 0 < 64) → z ≡ first f (below 64) 0
        inside z t (yes k) u = eqb→eq z (first f (below 64) 0) (subst T (count_one f 64 one z k (subst T (sym (names z k)) t) (first f (below 64) 0) u.1) u.0)
        inside z t (no k) u = absurd (subst T (digits_few 64 bits few z (omega arith)) t)

pub first_named : (bits : ℕ) → bits < 2 ^ 64 → T (any (bit bits) (below 64)) → count (bit bits) (below 64) ≤ 1
    → (count_trailing_zeros 64 bits ≡ first (bit bits) (below 64) 0) × (first (bit bits) (below 64) 0 < 64)
first_named bits few some one = (sole (bit bits) bits few (λ x l. refl) some one, (first_below (bit bits) 64 some).1)

-- eight digits of a number
bit_at : (n i x : ℕ) → bit n (i + x) ≡ bit (n / 2 ^ i) x
bit_at n zero x = let e : n ≡ n / 2 ^ 0 = omega arith in ap₂ (λ (m j : ℕ). bit m j) e (zero-add x)
bit_at n (suc i) x = ap (bit n) (suc-add i x) ∙ bit_at (n / 2) i x ∙ ap (λ (m : ℕ). bit m x) (shr-shr n 1 i ∙ ap (λ (j : ℕ). n / 2 ^ j) (let e : 1 + i ≡ suc i = omega arith in e))

digits_are : (f : ℕ → Bool) (m n i : ℕ) → ((x : ℕ) → x < m → f (i + x) ≡ bit n x) → digits_from f m i ≡ n % 2 ^ m
digits_are f zero n i e = omega arith
digits_are f (suc m) n i e =
    let low : ◌≡◌ {A = ℕ} (cond (f i) 1 0) (n % 2) = ap (λ (b : Bool). cond b 1 0) (ap f (sym (add-zero i)) ∙ e 0 (omega arith)) ∙ low_digit n in
    let high : digits_from f m (suc i) ≡ n / 2 % 2 ^ m = digits_are f m (n / 2) (suc i) (λ x l. ap f (suc-add i x ∙ sym (add-suc i x)) ∙ e (suc x) (omega arith)) in
    let whole : n % 2 ^ suc m ≡ (n / 2 % 2 ^ m) * 2 + n % 2 =
    ap (λ (p : ℕ). n % p) (pow-succ' 2 m ∙ (let e : 2 * 2 ^ m ≡ 2 ^ m * 2 = omega arith in e)) ∙ mod-mul n {m = 2 ^ m} {c = 2} (pow_pos m) (omega arith) in
    omega (arith, low, high, whole)

pub way_byte : (n j : ℕ) → digits_from (bit n) 8 (8 * j) ≡ n / 2 ^ (8 * j) % 256
way_byte n j = digits_are (bit n) 8 (n / 2 ^ (8 * j)) (8 * j) (λ x l. bit_at n (8 * j) x)

-- the set as the bytes of its number, the lowest first
pub ways_written : (n : ℕ) → to_le_bytes w64 n ≡ way_bytes (bit n)
unfolding way_bytes
ways_written n =
    let low : n % 256 ≡ n / 1 % 256 = omega arith in
    ap (λ (b : ℕ). b ∷ bytes_low_first 1 7 n) low ∙ map_same (λ j. n / 2 ^ (8 * j) % 256) (λ j. digits_from (bit n) 8 (8 * j)) (below 8) (λ j m. sym (way_byte n j))

digits_same : (f h : ℕ → Bool) (m i : ℕ) → i + m ≤ 64 → ((x : ℕ) → x < 64 → f x ≡ h x) → digits_from f m i ≡ digits_from h m i
digits_same f h zero i l e = refl
digits_same f h (suc m) i l e = ap₂ (λ (b : Bool) (n : ℕ). cond b 1 0 + 2 * n) (e i (omega arith)) (digits_same f h m (suc i) (omega arith) e)

pub ways_same : (f h : ℕ → Bool) → ((x : ℕ) → x < 64 → f x ≡ h x) → way_bytes f ≡ way_bytes h
unfolding way_bytes
ways_same f h e = map_same (λ j. digits_from f 8 (8 * j)) (λ j. digits_from h 8 (8 * j)) (below 8) (λ j m. digits_same f h 8 (8 * j) (let l = below_from 8 j m in omega arith) e)

at_most : (a b : ℕ) → a ≡ b → a + 0 ≤ 1 → b ≤ 1
at_most a b e l = omega arith

-- what the conversion asks of the set of an entry of form 2 that does not end a path
pub asks_one : (e : List ℕ) (form lexicons bits : ℕ) (stop : Bool) → form ≡ 2 → T (right_ways e form lexicons) → way_count e 2 ≤ 1 → stop ≡ may_stop e form
    → Names (goes_to e form) bits → stop ≡ false → T (any (bit bits) (below 64)) × (count (bit bits) (below 64) ≤ 1)
unfolding right_ways way_count
asks_one e form lexicons bits stop two right one s names off =
    let names2 : Names (goes_to e 2) bits = subst (λ (f : ℕ). Names (goes_to e f) bits) two names in
    let stays : may_stop e 2 ≡ false = ap (may_stop e) (sym two) ∙ sym s ∙ off in
    let right2 : T (right_ways e 2 lexicons) = subst (λ (f : ℕ). T (right_ways e f lexicons)) two right in
    let u = out3 (leb (byte e 13) 1) (every (λ x. ltb x lexicons || not (goes_to e 2 x)) (below 64)) (may_stop e 2 || any (goes_to e 2) (below 64)) right2 in
    let w = any_from (goes_to e 2) (below 64) (subst (λ (b : Bool). T (b || any (goes_to e 2) (below 64))) stays u.2) in (
      any_has (bit bits) (below 64) w.1 (subst T (names2 w.0 (below_from 64 w.0 w.1)) w.2),
      at_most (count (goes_to e 2) (below 64)) (count (bit bits) (below 64)) (count_alike (goes_to e 2) (bit bits) 64 names2)
          (subst (λ (b : Bool). count (goes_to e 2) (below 64) + cond b 1 0 ≤ 1) stays one),
    )

-- sixteen bytes copied, and byte 13 written over
module _ (e x out : List ℕ) (w : ℕ) (is : e ≡ take w x) (wide : 16 ≤ w) (there : 16 ≤ length x) (m : ℕ) where
  abbrev stored : List ℕ
  stored = take 13 e ++ (m ∷ take 2 (drop 14 e))

  gloss_is : drop 14 (take 16 x) ≡ take 2 (drop 14 e)
  gloss_is =
      let n : w ≡ 14 + (w - 14) = omega arith in
      drop_take 14 2 x
      ∙ sym (ap (λ (l : List ℕ). take 2 (drop 14 l)) (is ∙ ap (λ (n : ℕ). take n x) n) ∙ ap (take 2) (drop_take 14 (w - 14) x) ∙ take-take 2 (w - 14) (drop 14 x) (omega arith))

  front_is : take 13 (take 16 x) ≡ take 13 e
  front_is = take-take 13 16 x (omega arith) ∙ sym (ap (take 13) is ∙ take-take 13 w x (omega arith))

  stored_is : set (take 16 x ++ drop 16 out) 13 m ≡ stored ++ drop 16 out
  stored_is =
      let l : length (take 16 x) ≡ 16 = length-take-le 16 x there in
      set-append_left (take 16 x) (drop 16 out) 13 m (omega arith)
      ∙ ap (λ (p : List ℕ). p ++ drop 16 out) (set_split (take 16 x) 13 m (omega arith) ∙ ap₂ (λ (a b : List ℕ). a ++ (m ∷ b)) front_is gloss_is)

  stored_long : length stored ≡ 16
  stored_long =
      let n : length e ≡ min w (length x) = ap length is ∙ length-take w x in
      omega (arith, length-append (take 13 e) (m ∷ take 2 (drop 14 e)), length-take 13 e, length-take 2 (drop 14 e), length-drop 14 e)

module _ (e x out : List ℕ) (form bits : ℕ) (stop : Bool) (m : ℕ) (ends : stop ≡ may_stop e form) (names : Names (goes_to e form) bits)
    (mark : m ≡ cond (eqb form 2) (cond stop 255 (first (bit bits) (below 64) 0)) (cond stop 1 0)) (there : 16 ≤ length x) where
  pub one_stored : form ≡ 2 → e ≡ take 24 x → length out ≡ 16 → set (take 16 x ++ drop 16 out) 13 m ≡ other_entry form e
  unfolding to_one
  one_stored two is long =
      let n : m ≡ cond (may_stop e 2) 255 (first (goes_to e 2) (below 64) 0) =
      mark ∙ ap (λ (b : Bool). cond b (cond stop 255 (first (bit bits) (below 64) 0)) (cond stop 1 0)) (eq-eqb form 2 two)
      ∙ ap₂ (λ (b : Bool) (z : ℕ). cond b 255 z) (ends ∙ ap (may_stop e) two)
      (sym (first_same (goes_to e form) (bit bits) 64 names) ∙ ap (λ (f : ℕ). first (goes_to e f) (below 64) 0) two) in
      stored_is e x out 24 is (omega arith) there m
      ∙ ap (λ (l : List ℕ). stored e x out 24 is (omega arith) there m ++ l) (drop_of_length-le out {i = 16} (omega arith))
      ∙ append-nil (stored e x out 24 is (omega arith) there m)
      ∙ ap (λ (n : ℕ). take 13 e ++ (n ∷ take 2 (drop 14 e))) n
      ∙ sym (ap (λ (b : Bool). cond b (to_one e) (to_many e)) (eq-eqb form 2 two))

  pub many_stored : form ≡ 1 → e ≡ take 16 x → take 16 (set (take 16 x ++ drop 16 out) 13 m) ++ way_bytes (bit bits) ≡ other_entry form e
  unfolding to_many
  many_stored one is =
      let other : eqb form 2 ≡ false = ne_eqb form 2 (λ d. omega (arith, one)) in
      let n : m ≡ cond (may_stop e 1) 1 0 =
      mark ∙ ap (λ (b : Bool). cond b (cond stop 255 (first (bit bits) (below 64) 0)) (cond stop 1 0)) other ∙ ap (λ (b : Bool). cond b 1 0) (ends ∙ ap (may_stop e) one) in
      let p = stored e x out 16 is (omega arith) there m in
      ap₂ (λ (a b : List ℕ). a ++ b)
      (ap (take 16) (stored_is e x out 16 is (omega arith) there m) ∙ take_at p (drop 16 out) 16 (stored_long e x out 16 is (omega arith) there m))
      (ways_same (bit bits) (goes_to e 1) (λ x l. sym (names x l) ∙ ap (λ (f : ℕ). goes_to e f x) one))
      ∙ append_assoc (take 13 e) (m ∷ take 2 (drop 14 e)) (way_bytes (goes_to e 1))
      ∙ ap (λ (n : ℕ). take 13 e ++ (n ∷ (take 2 (drop 14 e) ++ way_bytes (goes_to e 1)))) n
      ∙ sym (ap (λ (b : Bool). cond b (to_one e) (to_many e)) other)
