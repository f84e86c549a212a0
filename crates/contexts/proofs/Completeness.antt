-- The text of a canonical context is read back, whatever stands after it that doesn't go on with it.
use Prim.Native.Nat.{ℕ, zero, suc, ◌+◌, ◌-◌, ◌≤◌}
use mathlib.Core.Bool.{true, false, ◌&&◌}
use mathlib.Core.Path.{◌≡◌, refl, ap, ◌∙◌}
use mathlib.Core.List.{List, [], ◌∷◌, ◌++◌, append_assoc}
use lib.ListN.{length, length-append}
use lib.Dec.{T, leb, eqb, leb→le, le→leb}
use native.Mathlib.Omega.{arith}
use Rattle.contexts.specs.Context.{Context, pair, any, star, sequence, either, bracket, Level, tight, side, whole, canonical, written, depth}
use Rattle.contexts.specs.Reader.{is_digit, starts_with, begins_atom, got, Reader, read_stars, read_tight, read_side, read_whole, read_at, read}
use Rattle.model.proofs.Booleans.{and_out, and_in, true_of}
use borrow.Author.Tests.{ne_eqb}

-- what may stand after a context of a level
abbrev pub Stops : Level → List ℕ → Type 0
Stops tight r = starts_with 42 r ≡ false
Stops side r = (starts_with 42 r ≡ false) × (begins_atom r ≡ false)
Stops whole r = (starts_with 42 r ≡ false) × (begins_atom r ≡ false) × (starts_with 124 r ≡ false)

pub digit_yes : (a : ℕ) → T (leb a 9) → is_digit (48 + a) ≡ true
digit_yes a t =
    let h = leb→le a 9 t in
    true_of (is_digit (48 + a)) (and_in (leb 48 (48 + a)) (leb (48 + a) 57) (le→leb 48 (48 + a) (omega arith)) (le→leb (48 + a) 57 (omega arith)))

-- the text of a context begins with an atom, so with no star and no bar, and holds a byte
abbrev pub Begins : List ℕ → Type 0
Begins t = (x : ℕ) × (xs : List ℕ) × (t ≡ x ∷ xs) × (begins_atom (x ∷ xs) ≡ true) × (eqb x 42 ≡ false)

begins_append : (t u : List ℕ) → Begins t → Begins (t ++ u)
begins_append t u b = (b.0, b.1 ++ u, ap (λ (l : List ℕ). l ++ u) b.2, b.3, b.4)

pub begins : (l : Level) (c : Context) → T (canonical l c) → Begins (written c)
begins l (pair a b d) t =
    let u = and_out (leb a 9 && leb b 9) (leb d 9) t in
    let e = digit_yes a (and_out (leb a 9) (leb b 9) u.0).0 in
    (48 + a, _, refl, rw e refl, ne_eqb (48 + a) 42 (λ e. omega arith))
begins l any t = (46, _, refl, refl, refl)
begins l (star c) t = begins_append (written c) (42 ∷ []) (begins tight c t)
begins l (bracket c) t = (40, _, refl, refl, refl)
begins tight (sequence c d) t = absurd t
begins side (sequence c d) t = begins_append (written c) (written d) (begins tight c (and_out (canonical tight c) (canonical side d) t).0)
begins whole (sequence c d) t = begins_append (written c) (written d) (begins tight c (and_out (canonical tight c) (canonical side d) t).0)
begins tight (either c d) t = absurd t
begins side (either c d) t = absurd t
begins whole (either c d) t = begins_append (written c) (124 ∷ written d) (begins side c (and_out (canonical side c) (canonical whole d) t).0)

not_star : (t : List ℕ) → Begins t → starts_with 42 t ≡ false
not_star t b = rw b.2 b.4

is_atom : (t : List ℕ) → Begins t → begins_atom t ≡ true
is_atom t b = rw b.2 b.3

holds_byte : (t : List ℕ) → Begins t → 1 ≤ length t
holds_byte t b = omega (arith, ap length b.2)

stars_stop : (c : Context) (r : List ℕ) → starts_with 42 r ≡ false → read_stars c r ≡ got c r
stars_stop c [] e = refl
stars_stop c (x ∷ xs) e = rw e refl

-- what is asked of `rec`: it reads back every context of at most n bytes
abbrev ReadsBack : ℕ → Reader → Type 0
ReadsBack n rec = (l : Level) (c : Context) (b : ℕ) (r : List ℕ) → T (canonical l c) → depth c ≤ b → length (written c) ≤ n → Stops l r → rec l b (written c ++ r) ≡ got c r

module _ (n : ℕ) (rec : Reader) (back : ReadsBack n rec) where
  -- with its stars still to be read, whatever comes next
  tight_stars : (c : Context) (b : ℕ) (r : List ℕ) → T (canonical tight c) → depth c ≤ b → length (written c) ≤ suc n → read_tight rec b (written c ++ r) ≡ read_stars c r
  tight_stars (pair x y z) b r t h k =
      let u = and_out (leb x 9 && leb y 9) (leb z 9) t in
      let v = and_out (leb x 9) (leb y 9) u.0 in
      let e : 48 + x - 48 ≡ x = omega arith in
      let f : 48 + y - 48 ≡ y = omega arith in
      let g : 48 + z - 48 ≡ z = omega arith in
      rw (ne_eqb (48 + x) 40 (λ e. omega arith), ne_eqb (48 + x) 46 (λ e. omega arith), digit_yes x v.0, digit_yes y v.1, digit_yes z u.1, e, f, g) refl
  tight_stars any b r t h k = refl
  tight_stars (star c) b r t h k =
      rw append_assoc (tight_stars c b (42 ∷ r) t h (omega (arith, k, length-append (written c) (42 ∷ []))))
  tight_stars (sequence c d) b r t h k = absurd t
  tight_stars (either c d) b r t h k = absurd t
  tight_stars (bracket c) zero r t h k = absurd (omega arith)
  tight_stars (bracket c) (suc b) r t h k =
      let e = back whole c b (41 ∷ r) t (omega arith) (omega (arith, k, length-append (written c) (41 ∷ []))) (refl, refl, refl) in
      rw (append_assoc, e) refl

  tight_back : (c : Context) (b : ℕ) (r : List ℕ) → T (canonical tight c) → depth c ≤ b → length (written c) ≤ suc n → Stops tight r → read_tight rec b (written c ++ r) ≡ got c r
  tight_back c b r t h k s = tight_stars c b r t h k ∙ stars_stop c r s

  -- a side that is no sequence
  side_one : (c : Context) (b : ℕ) (r : List ℕ) → T (canonical tight c) → depth c ≤ b → length (written c) ≤ suc n → Stops side r → read_side rec b (written c ++ r) ≡ got c r
  side_one c b r t h k s = rw (tight_back c b r t h k s.0, s.1) refl

  side_back : (c : Context) (b : ℕ) (r : List ℕ) → T (canonical side c) → depth c ≤ b → length (written c) ≤ suc n → Stops side r → read_side rec b (written c ++ r) ≡ got c r
  side_back (pair x y z) b r t h k s = side_one (pair x y z) b r t h k s
  side_back any b r t h k s = side_one any b r t h k s
  side_back (star c) b r t h k s = side_one (star c) b r t h k s
  side_back (bracket c) b r t h k s = side_one (bracket c) b r t h k s
  side_back (either c d) b r t h k s = absurd t
  side_back (sequence c d) b r t h k s =
      let u = and_out (canonical tight c) (canonical side d) t in
      let p = begins tight c u.0 in
      let q = begins_append (written d) r (begins side d u.1) in
      let m = length-append (written c) (written d) in
      let i = holds_byte (written c) p in
      let e = tight_back c b (written d ++ r) u.0 (omega arith) (omega (arith, k, m)) (not_star (written d ++ r) q) in
      let f = back side d b r u.1 (omega arith) (omega (arith, k, m, i)) s in
      rw (append_assoc, e, is_atom (written d ++ r) q, f) refl

  whole_one : (c : Context) (b : ℕ) (r : List ℕ) → T (canonical side c) → depth c ≤ b → length (written c) ≤ suc n → Stops whole r → read_whole rec b (written c ++ r) ≡ got c r
  whole_one c b r t h k s = rw (side_back c b r t h k (s.0, s.1), s.2) refl

  whole_back : (c : Context) (b : ℕ) (r : List ℕ) → T (canonical whole c) → depth c ≤ b → length (written c) ≤ suc n → Stops whole r → read_whole rec b (written c ++ r) ≡ got c r
  whole_back (pair x y z) b r t h k s = whole_one (pair x y z) b r t h k s
  whole_back any b r t h k s = whole_one any b r t h k s
  whole_back (star c) b r t h k s = whole_one (star c) b r t h k s
  whole_back (bracket c) b r t h k s = whole_one (bracket c) b r t h k s
  whole_back (sequence c d) b r t h k s = whole_one (sequence c d) b r t h k s
  whole_back (either c d) b r t h k s =
      let u = and_out (canonical side c) (canonical whole d) t in
      let p = begins side c u.0 in
      let m = length-append (written c) (124 ∷ written d) in
      let e = side_back c b (124 ∷ (written d ++ r)) u.0 (omega arith) (omega (arith, k, m)) (refl, refl) in
      let f = back whole d b r u.1 (omega arith) (omega (arith, k, m)) s in
      rw (append_assoc, e, f) refl

  step_back : ReadsBack (suc n) (read_at rec)
  step_back tight c b r t h k s = tight_back c b r t h k s
  step_back side c b r t h k s = side_back c b r t h k s
  step_back whole c b r t h k s = whole_back c b r t h k s

-- a written context is read back, with any text after it that doesn't go on
pub read_back : (n : ℕ) → ReadsBack n (read n)
read_back zero l c b r t h k s = absurd (omega (arith, holds_byte (written c) (begins l c t)))
read_back (suc n) l c b r t h k s = step_back n (read n) (read_back n) l c b r t h k s
