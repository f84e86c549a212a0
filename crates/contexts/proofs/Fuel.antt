-- More fuel than the text has bytes reads the same, so that the reader calls itself with no fuel to be seen.
use Prim.Native.Nat.{ℕ, zero, suc, ◌≤◌, ◌<◌, min}
use mathlib.Core.Bool.{Bool, true, false}
use mathlib.Core.Path.{◌≡◌, refl, sym, ap, ◌∙◌}
use mathlib.Core.List.{List, [], ◌∷◌}
use lib.ListN.{length, drop, length-append, length-drop}
use native.Mathlib.Omega.{arith}
use Rattle.contexts.specs.Context.{Context, sequence, either, Level, tight, side, whole, written}
use Rattle.contexts.specs.Reader.{starts_with, begins_atom, Read, failed, got, and_then, Reader, read_stars, closed, read_bracket, read_atom_as, read_tight, more_of_side, read_side, more_sides, read_whole, read_at, read}
use Rattle.contexts.specs.Fuel.{read_text, read_atom}
use Rattle.contexts.proofs.Completeness.{begins}
use Rattle.contexts.proofs.Soundness.{Good, Off, Sound, tight_sound, side_sound, sound}

then_same : {P : Context → List ℕ → Type 0} (x : Read) (f g : Context → List ℕ → Read) → Good P x → ((c : Context) (r : List ℕ) → P c r → f c r ≡ g c r) → and_then x f ≡ and_then x g
then_same failed f g p h = refl
then_same (got c r) f g p h = h c r p

-- what is read off a text leaves a shorter one
pub shorter : (l : Level) (b : ℕ) (t : List ℕ) (c : Context) (r : List ℕ) → Off l b t c r → length r < length t
shorter l b t c r o =
    let e = begins l c o.shaped in
    omega (arith, ap length e.2, ap length o.stood, length-append (written c) r)

abbrev AgreeTo : ℕ → Reader → Reader → Type 0
AgreeTo k rec other = (l : Level) (b : ℕ) (t : List ℕ) → length t ≤ k → rec l b t ≡ other l b t

module _ (k : ℕ) (rec other : Reader) (sound : Sound rec) (agree : AgreeTo k rec other) where
  bracket_agree : (b : ℕ) (t : List ℕ) → length t ≤ k → read_bracket rec b t ≡ read_bracket other b t
  bracket_agree zero t h = refl
  bracket_agree (suc b) t h = ap (λ (x : Read). and_then x closed) (agree whole b t h)

  atom_agree : (b : ℕ) (opens dot : Bool) (t : List ℕ) → length t ≤ suc k → read_atom_as rec b opens dot t ≡ read_atom_as other b opens dot t
  atom_agree b true dot t h = bracket_agree b (drop 1 t) (omega (arith, length-drop 1 t))
  atom_agree b false true t h = refl
  atom_agree b false false t h = refl

  tight_agree : (b : ℕ) (t : List ℕ) → length t ≤ suc k → read_tight rec b t ≡ read_tight other b t
  tight_agree b t h = ap (λ (x : Read). and_then x read_stars) (atom_agree b (starts_with 40 t) (starts_with 46 t) t h)

  more_of_side_agree : (b : ℕ) (c : Context) (more : Bool) (t : List ℕ) → length t ≤ k → more_of_side rec b c more t ≡ more_of_side other b c more t
  more_of_side_agree b c true t h = ap (λ (x : Read). and_then x (λ d r. got (sequence c d) r)) (agree side b t h)
  more_of_side_agree b c false t h = refl

  side_agree : (b : ℕ) (t : List ℕ) → length t ≤ suc k → read_side rec b t ≡ read_side other b t
  side_agree b t h =
      then_same (read_tight rec b t) (λ c r. more_of_side rec b c (begins_atom r) r) (λ c r. more_of_side other b c (begins_atom r) r) (tight_sound rec sound b t)
      (λ c r o. more_of_side_agree b c (begins_atom r) r (omega (arith, shorter tight b t c r o)))
      ∙ ap (λ (x : Read). and_then x (λ c r. more_of_side other b c (begins_atom r) r)) (tight_agree b t h)

  more_sides_agree : (b : ℕ) (c : Context) (more : Bool) (t : List ℕ) → length t ≤ k → more_sides rec b c more t ≡ more_sides other b c more t
  more_sides_agree b c true t h = ap (λ (x : Read). and_then x (λ d r. got (either c d) r)) (agree whole b (drop 1 t) (omega (arith, length-drop 1 t)))
  more_sides_agree b c false t h = refl

  whole_agree : (b : ℕ) (t : List ℕ) → length t ≤ suc k → read_whole rec b t ≡ read_whole other b t
  whole_agree b t h =
      then_same (read_side rec b t) (λ c r. more_sides rec b c (starts_with 124 r) r) (λ c r. more_sides other b c (starts_with 124 r) r) (side_sound rec sound b t)
      (λ c r o. more_sides_agree b c (starts_with 124 r) r (omega (arith, shorter side b t c r o)))
      ∙ ap (λ (x : Read). and_then x (λ c r. more_sides other b c (starts_with 124 r) r)) (side_agree b t h)

  step_agree : AgreeTo (suc k) (read_at rec) (read_at other)
  step_agree tight b t h = tight_agree b t h
  step_agree side b t h = side_agree b t h
  step_agree whole b t h = whole_agree b t h

nothing : (rec : Reader) (l : Level) (b : ℕ) (t : List ℕ) → length t ≡ 0 → failed ≡ read_at rec l b t
nothing rec tight b [] e = refl
nothing rec side b [] e = refl
nothing rec whole b [] e = refl
nothing rec l b (x ∷ t) e = absurd (omega arith)

agree : (n m : ℕ) (l : Level) (b : ℕ) (t : List ℕ) → length t ≤ n → length t ≤ m → read n l b t ≡ read m l b t
agree zero zero l b t h k = refl
agree zero (suc m) l b t h k = nothing (read m) l b t (omega arith)
agree (suc n) zero l b t h k = sym (nothing (read n) l b t (omega arith))
agree (suc n) (suc m) l b t h k = step_agree (min n m) (read n) (read m) (sound n) (λ l b u i. agree n m l b u (omega arith) (omega arith)) l b t (omega arith)

pub unfold_text : (l : Level) (b : ℕ) (t : List ℕ) → read_text l b t ≡ read_at read_text l b t
unfolding read_text
unfold_text l b [] = nothing read_text l b [] refl
unfold_text l b (x ∷ t) = step_agree (length t) (read (length t)) read_text (sound (length t)) (λ l b u h. agree (length t) (length u) l b u h (omega arith)) l b (x ∷ t) (omega arith)

-- so each level is read from the one below it
pub unfold_tight : (b : ℕ) (t : List ℕ) → read_text tight b t ≡ and_then (read_atom read_text b t) read_stars
unfold_tight b t = unfold_text tight b t

pub unfold_side : (b : ℕ) (t : List ℕ) → read_text side b t ≡ and_then (read_text tight b t) (λ c r. more_of_side read_text b c (begins_atom r) r)
unfold_side b t = unfold_text side b t ∙ ap (λ (x : Read). and_then x (λ c r. more_of_side read_text b c (begins_atom r) r)) (sym (unfold_text tight b t))

pub unfold_whole : (b : ℕ) (t : List ℕ) → read_text whole b t ≡ and_then (read_text side b t) (λ c r. more_sides read_text b c (starts_with 124 r) r)
unfold_whole b t = unfold_text whole b t ∙ ap (λ (x : Read). and_then x (λ c r. more_sides read_text b c (starts_with 124 r) r)) (sym (unfold_text side b t))
