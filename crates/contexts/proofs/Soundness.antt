-- What is read is a canonical context whose text stood there, with brackets no deeper than allowed.
use Prim.Native.Nat.{ℕ, zero, suc, ◌+◌, ◌-◌, ◌≤◌}
use mathlib.Core.Bool.{Bool, true, false, ◌&&◌, cond}
use mathlib.Core.Path.{◌≡◌, refl, sym, ap, ◌∙◌, subst}
use mathlib.Core.List.{List, [], ◌∷◌, ◌++◌, append_assoc}
use lib.ListN.{drop}
use lib.Dec.{T, leb, eqb, leb→le, le→leb, eqb→eq}
use native.Mathlib.Omega.{arith}
use Rattle.contexts.specs.Context.{Context, pair, any, star, sequence, either, bracket, Level, tight, side, whole, canonical, written, depth}
use Rattle.contexts.specs.Reader.{is_digit, starts_with, begins_atom, Read, failed, got, and_then, Reader, read_stars, read_pair, closed, read_bracket, read_atom_as, read_tight, more_of_side, read_side, more_sides, read_whole, read_at, read}
use Rattle.model.proofs.Booleans.{and_out, and_in, of_true}

-- what is known of a context and the text after it, where one was read
abbrev pub Good : (Context → List ℕ → Type 0) → Read → Type 0
Good P failed = Unit {0}
Good P (got c r) = P c r

then_good : {P : Context → List ℕ → Type 0} (Q : Context → List ℕ → Type 0) (x : Read) (f : Context → List ℕ → Read) → Good P x → ((c : Context) (r : List ℕ) → P c r → Good Q (f c r)) → Good Q (and_then x f)
then_good Q failed f g h = tt
then_good Q (got c r) f g h = h c r g

cond_good : (P : Context → List ℕ → Type 0) (b : Bool) (x : Read) → (T b → Good P x) → Good P (cond b x failed)
cond_good P true x h = h tt
cond_good P false x h = tt

-- a context read off t up to r: canonical, its text stood there, and its brackets are no deeper than b
pub record Off (l : Level) (b : ℕ) (t : List ℕ) (c : Context) (r : List ℕ) : Type 0 where
  pub shaped : T (canonical l c)
  pub stood : written c ++ r ≡ t
  pub shallow : depth c ≤ b

abbrev pub Sound : Reader → Type 0
Sound rec = (l : Level) (b : ℕ) (t : List ℕ) → Good (Off l b t) (rec l b t)

pub starts_out : (x : ℕ) (t : List ℕ) → T (starts_with x t) → x ∷ drop 1 t ≡ t
starts_out x [] h = absurd h
starts_out x (y ∷ ys) h = let e = eqb→eq y x h in cc

tight_side : (c : Context) → T (canonical tight c) → T (canonical side c)
tight_side (pair a b d) t = t
tight_side any t = t
tight_side (star c) t = t
tight_side (bracket c) t = t
tight_side (sequence c d) t = absurd t
tight_side (either c d) t = absurd t

side_whole : (c : Context) → T (canonical side c) → T (canonical whole c)
side_whole (pair a b d) t = t
side_whole any t = t
side_whole (star c) t = t
side_whole (bracket c) t = t
side_whole (sequence c d) t = t
side_whole (either c d) t = absurd t

pub digit_out : (x : ℕ) → T (is_digit x) → T (leb (x - 48) 9) × (48 + (x - 48) ≡ x)
digit_out x t =
    let u = and_out (leb 48 x) (leb x 57) t in
    let h = leb→le 48 x u.0 in
    let k = leb→le x 57 u.1 in
    (le→leb (x - 48) 9 (omega arith), omega arith)

pair_sound : (b : ℕ) (t : List ℕ) → Good (Off tight b t) (read_pair t)
pair_sound b [] = tt
pair_sound b (x ∷ []) = tt
pair_sound b (x ∷ y ∷ []) = tt
pair_sound b (x ∷ y ∷ z ∷ q) = cond_good (Off tight b (x ∷ y ∷ z ∷ q)) (is_digit x && is_digit y && is_digit z) (got (pair (x - 48) (y - 48) (z - 48)) q) λ t.
    let v = and_out (is_digit x && is_digit y) (is_digit z) t in
    let w = and_out (is_digit x) (is_digit y) v.0 in
    let i = digit_out x w.0 in
    let j = digit_out y w.1 in
    let k = digit_out z v.1 in
    record {
      shaped = and_in (leb (x - 48) 9 && leb (y - 48) 9) (leb (z - 48) 9) (and_in (leb (x - 48) 9) (leb (y - 48) 9) i.0 j.0) k.0;
      stood = rw (i.1, j.1, k.1) refl;
      shallow = omega arith;
    }

stars_sound : (b : ℕ) (t : List ℕ) (c : Context) (u : List ℕ) → Off tight b t c u → Good (Off tight b t) (read_stars c u)
stars_sound b t c [] o = o
stars_sound b t c (x ∷ xs) o = go (eqb x 42) (λ h. eqb→eq x 42 h) (stars_sound b t (star c) xs)
  where
    go : (s : Bool) → (T s → x ≡ 42) → (Off tight b t (star c) xs → Good (Off tight b t) (read_stars (star c) xs)) → Good (Off tight b t) (cond s (read_stars (star c) xs) (got c (x ∷ xs)))
    go true e r =
        let f = e tt in
        r (record { shaped = o.shaped; stood = rw append_assoc (ap (λ (y : ℕ). written c ++ (y ∷ xs)) (sym f) ∙ o.stood); shallow = o.shallow })
    go false e r = o

module _ (rec : Reader) (sound : Sound rec) where
  bracket_sound : (b : ℕ) (t : List ℕ) → Good (Off tight b (40 ∷ t)) (read_bracket rec b t)
  bracket_sound zero t = tt
  bracket_sound (suc b) t = then_good (Off tight (suc b) (40 ∷ t)) (rec whole b t) closed (sound whole b t) λ c r o.
      cond_good (Off tight (suc b) (40 ∷ t)) (starts_with 41 r) (got (bracket c) (drop 1 r)) λ h.
      let e = starts_out 41 r h in
      record {
        shaped = o.shaped;
        stood = rw append_assoc (ap (λ (l : List ℕ). 40 ∷ l) (ap (λ (l : List ℕ). written c ++ l) e ∙ o.stood));
        shallow = omega (arith, o.shallow);
      }

  atom_sound : (b : ℕ) (opens dot : Bool) (t : List ℕ) → starts_with 40 t ≡ opens → starts_with 46 t ≡ dot → Good (Off tight b t) (read_atom_as rec b opens dot t)
  atom_sound b true dot t p q = rw (starts_out 40 t (of_true (starts_with 40 t) p)) at (bracket_sound b (drop 1 t))
  atom_sound b false true t p q = record { shaped = tt; stood = starts_out 46 t (of_true (starts_with 46 t) q); shallow = omega arith }
  atom_sound b false false t p q = pair_sound b t

  pub tight_sound : (b : ℕ) (t : List ℕ) → Good (Off tight b t) (read_tight rec b t)
  tight_sound b t =
      then_good (Off tight b t) (read_atom_as rec b (starts_with 40 t) (starts_with 46 t) t) read_stars (atom_sound b (starts_with 40 t) (starts_with 46 t) t refl refl) λ c r o.
      stars_sound b t c r o

  pub side_sound : (b : ℕ) (t : List ℕ) → Good (Off side b t) (read_side rec b t)
  side_sound b t = then_good (Off side b t) (read_tight rec b t) (λ c r. more_of_side rec b c (begins_atom r) r) (tight_sound b t) λ c r o. go c r o (begins_atom r)
    where
      go : (c : Context) (r : List ℕ) → Off tight b t c r → (more : Bool) → Good (Off side b t) (more_of_side rec b c more r)
      go c r o true = then_good (Off side b t) (rec side b r) (λ d q. got (sequence c d) q) (sound side b r) λ d q p.
          record {
            shaped = and_in (canonical tight c) (canonical side d) o.shaped p.shaped;
            stood = rw append_assoc (ap (λ (l : List ℕ). written c ++ l) p.stood ∙ o.stood);
            shallow = omega (arith, o.shallow, p.shallow);
          }
      go c r o false = record { shaped = tight_side c o.shaped; stood = o.stood; shallow = o.shallow }

  whole_sound : (b : ℕ) (t : List ℕ) → Good (Off whole b t) (read_whole rec b t)
  whole_sound b t = then_good (Off whole b t) (read_side rec b t) (λ c r. more_sides rec b c (starts_with 124 r) r) (side_sound b t) λ c r o. go c r o (starts_with 124 r) refl
    where
      go : (c : Context) (r : List ℕ) → Off side b t c r → (more : Bool) → starts_with 124 r ≡ more → Good (Off whole b t) (more_sides rec b c more r)
      go c r o true e = then_good (Off whole b t) (rec whole b (drop 1 r)) (λ d q. got (either c d) q) (sound whole b (drop 1 r)) λ d q p.
          record {
            shaped = and_in (canonical side c) (canonical whole d) o.shaped p.shaped;
            stood = rw append_assoc (ap (λ (l : List ℕ). written c ++ (124 ∷ l)) p.stood ∙ ap (λ (l : List ℕ). written c ++ l) (starts_out 124 r (of_true (starts_with 124 r) e)) ∙ o.stood);
            shallow = omega (arith, o.shallow, p.shallow);
          }
      go c r o false e = record { shaped = side_whole c o.shaped; stood = o.stood; shallow = o.shallow }

  step_sound : Sound (read_at rec)
  step_sound tight b t = tight_sound b t
  step_sound side b t = side_sound b t
  step_sound whole b t = whole_sound b t

pub sound : (n : ℕ) → Sound (read n)
sound zero l b t = tt
sound (suc n) l b t = step_sound (read n) (sound n) l b t

pub read_off : (n : ℕ) (l : Level) (b : ℕ) (t : List ℕ) (c : Context) (r : List ℕ) → read n l b t ≡ got c r → Off l b t c r
read_off n l b t c r e = subst (Good (Off l b t)) e (sound n l b t)
