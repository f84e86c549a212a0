-- One level but the lexical, the level a parameter: what one more pair, and the end, do to its letters, its nulls and what is asked of it.
use Prim.Native.Nat.{ℕ, zero, suc, ◌+◌, ◌<◌, ◌≤◌}
use mathlib.Core.Bool.{◌&&◌}
use mathlib.Core.Path.{◌≡◌, refl}
use mathlib.Core.List.{List, [], ◌∷◌, map}
use lib.ListN.{length}
use lib.Dec.{T, leb, ltb, leb→le, le→leb, ltb→lt, lt→ltb}
use native.Mathlib.Omega.{arith}
use Rattle.model.specs.Lists.{within}
use Rattle.model.specs.Readings.{nulls, without_nulls, spelled, few_nulls, word_length, is_line}
use Rattle.model.specs.Query.{Pattern, fits}
use Rattle.model.specs.Tree.{Level, level_may, level_go, level_ends, line_may, line_ends, allows_side, letters_and, nulls_and}
use Rattle.model.proofs.Booleans.{and_out, and_in, out3, in3, within_out, within_in}

pub nulls_step : (i a : ℕ) (xs : List ℕ) → nulls_and i a + nulls xs ≡ i + nulls (a ∷ xs)
nulls_step i zero xs = omega arith
nulls_step i (suc a) xs = refl

letters_step : (i a : ℕ) (xs : List ℕ) → letters_and i a + length (without_nulls xs) ≡ i + length (without_nulls (a ∷ xs))
letters_step i zero xs = refl
letters_step i (suc a) xs = omega arith

fits_step : (t : Pattern) (i a : ℕ) (xs : List ℕ) → fits t i (without_nulls (a ∷ xs)) ≡ (allows_side t i a && fits t (letters_and i a) (without_nulls xs))
fits_step t i zero xs = refl
fits_step t i (suc a) xs = refl

-- the bounds that the walk keeps
pub record LevelSane (c : Level) : Type 0 where
  pub letters_in : c.letters ≤ 32
  pub nulls_in : c.nulls ≤ 8

-- the pairs end what the level has begun
pub record LevelDone (side : ℕ → ℕ) (t : Pattern) (c : Level) (ps : List ℕ) : Type 0 where
  pub letters_in : c.letters + length (spelled side ps) ≤ 32
  pub letters_some : 0 < c.letters + length (spelled side ps)
  pub nulls_in : c.nulls + nulls (map side ps) ≤ 8
  pub asked : T (fits t c.letters (spelled side ps))

module _ (side : ℕ → ℕ) (t : Pattern) (c : Level) where
  -- the letters of a pair are asked for alone: what comes after it has kept the bounds
  pub line_step_to : (p : ℕ) (ps : List ℕ) → T (line_may side t c p) → LevelDone side t (level_go side t c p) ps → LevelDone side t c (p ∷ ps)
  line_step_to p ps m d =
      let w = letters_step c.letters (side p) (map side ps) in
      record {
        letters_in = omega (arith, d.letters_in, w);
        letters_some = omega (arith, d.letters_some, w);
        nulls_in = omega (arith, d.nulls_in, nulls_step c.nulls (side p) (map side ps));
        asked = rw (fits_step t c.letters (side p) (map side ps)) (and_in (line_may side t c p) (fits t (letters_and c.letters (side p)) (spelled side ps)) m d.asked);
      }

  -- what is asked of a pair on a level that keeps its bounds
  level_tests : (p : ℕ) → T (level_may side t c p) → T (line_may side t c p) × T (leb (letters_and c.letters (side p)) 32) × T (leb (nulls_and c.nulls (side p)) 8)
  level_tests p m = out3 (line_may side t c p) (leb (letters_and c.letters (side p)) 32) (leb (nulls_and c.nulls (side p)) 8) m

  pub level_to : (p : ℕ) (ps : List ℕ) → T (level_may side t c p) → LevelDone side t (level_go side t c p) ps → LevelDone side t c (p ∷ ps)
  level_to p ps m d = line_step_to p ps (level_tests p m).0 d

  pub level_from : (p : ℕ) (ps : List ℕ) → LevelDone side t c (p ∷ ps) → T (level_may side t c p) × LevelDone side t (level_go side t c p) ps
  level_from p ps d =
      let f = and_out (allows_side t c.letters (side p)) (fits t (letters_and c.letters (side p)) (spelled side ps)) (rw (fits_step t c.letters (side p) (map side ps)) at d.asked) in
      let w = letters_step c.letters (side p) (map side ps) in
      let x = nulls_step c.nulls (side p) (map side ps) in
      let c1 : letters_and c.letters (side p) + length (spelled side ps) ≤ 32 = omega (arith, d.letters_in, w) in
      let c2 : nulls_and c.nulls (side p) + nulls (map side ps) ≤ 8 = omega (arith, d.nulls_in, x) in (
        in3 (allows_side t c.letters (side p)) (leb (letters_and c.letters (side p)) 32) (leb (nulls_and c.nulls (side p)) 8) f.0 (le→leb (letters_and c.letters (side p)) 32 (omega arith)) (le→leb (nulls_and c.nulls (side p)) 8 (omega arith)),
        record { letters_in = c1; letters_some = omega (arith, d.letters_some, w); nulls_in = c2; asked = f.1 },
      )

  pub level_end_to : LevelSane c → T (level_ends side t c) → LevelDone side t c []
  level_end_to s e =
      let f = and_out (ltb 0 c.letters) (t.may_end c.letters) e in
      let k = ltb→lt 0 c.letters f.0 in
      record { letters_in = omega (arith, s.letters_in); letters_some = omega arith; nulls_in = omega (arith, s.nulls_in); asked = f.1 }

  pub level_end_from : LevelDone side t c [] → T (level_ends side t c)
  level_end_from d =
      let k : 0 < c.letters = omega (arith, d.letters_some) in
      and_in (ltb 0 c.letters) (t.may_end c.letters) (lt→ltb 0 c.letters k) d.asked

  pub level_sane : (p : ℕ) → T (level_may side t c p) → LevelSane (level_go side t c p)
  level_sane p m =
      let f = level_tests p m in
      record { letters_in = leb→le (letters_and c.letters (side p)) 32 f.1; nulls_in = leb→le (nulls_and c.nulls (side p)) 8 f.2 }

  pub line_step_from : (p : ℕ) (ps : List ℕ) → LevelDone side t c (p ∷ ps) → T (line_may side t c p) × LevelDone side t (level_go side t c p) ps
  line_step_from p ps d = let u = level_from p ps d in ((level_tests p u.0).0, u.1)

  -- the counts of the spoken line, looked at where the reading ends
  pub line_end_to : T (line_ends side t c) → LevelDone side t c []
  line_end_to e =
      let f = out3 (within 1 32 c.letters) (leb c.nulls 8) (t.may_end c.letters) e in
      let l = within_out 1 32 c.letters f.0 in
      let n = leb→le c.nulls 8 f.1 in
      record { letters_in = omega arith; letters_some = omega arith; nulls_in = omega arith; asked = f.2 }

  pub line_end_from : LevelDone side t c [] → T (line_ends side t c)
  line_end_from d =
      in3 (within 1 32 c.letters) (leb c.nulls 8) (t.may_end c.letters)
      (within_in 1 32 c.letters (omega (arith, d.letters_some)) (omega (arith, d.letters_in))) (le→leb c.nulls 8 (omega (arith, d.nulls_in))) d.asked

-- a whole level, from nothing
abbrev pub no_level : Level
no_level = record { letters = 0; nulls = 0 }

module _ (side : ℕ → ℕ) (t : Pattern) (ps : List ℕ) where
  pub line_from : T (is_line side ps) → T (fits t 0 (spelled side ps)) → LevelDone side t no_level ps
  line_from l f =
      let u = and_out (word_length (spelled side ps)) (few_nulls side ps) l in
      let a = within_out 1 32 (length (spelled side ps)) u.0 in
      let b = leb→le (nulls (map side ps)) 8 u.1 in
      record { letters_in = omega arith; letters_some = omega arith; nulls_in = omega arith; asked = f }

  pub line_to : LevelDone side t no_level ps → T (is_line side ps)
  line_to d =
      and_in (word_length (spelled side ps)) (few_nulls side ps)
      (within_in 1 32 (length (spelled side ps)) (omega (arith, d.letters_some)) (omega (arith, d.letters_in)))
      (le→leb (nulls (map side ps)) 8 (omega (arith, d.nulls_in)))
