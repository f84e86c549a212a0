-- What follows a node: the paths and pairings that complete it, there and back for each kind of step.
use Prim.Native.Nat.{ℕ, zero, suc, ◌+◌, ◌<◌, ◌≤◌}
use mathlib.Core.Bool.{Bool, true, false, ◌&&◌, not, true≢false}
use mathlib.Core.Path.{◌≡◌, refl, sym, ap}
use mathlib.Core.List.{List, [], ◌∷◌, ◌++◌, map, head-eq_of_cons-eq, tail-eq_of_cons-eq}
use lib.ListN.{length}
use lib.Dec.{T, leb, ltb, leb→le, le→leb, ltb→lt, lt→ltb, eqb→eq}
use native.Mathlib.Omega.{arith}
use Rattle.model.specs.Lists.{every, joined}
use Rattle.model.specs.Lexicon.{linked}
use Rattle.model.specs.Grammar.{Grammar}
use Rattle.model.specs.Readings.{nulls, without_nulls, spelled}
use Rattle.model.specs.Query.{Query, fits}
use Rattle.model.specs.Tree.{Node, opens, is_nil, spells, left, nulls_and, level_may, level_ends, line_may, line_ends, step_all, alive, finish, count_at, may_at, go_at, complete}
use Rattle.model.proofs.Booleans.{and_out, and_in, out3, in3, out5, in5, eq→eqb, not_out, true_of, of_true}
use Rattle.model.proofs.Rules.{passes_from, passes_alive, passes_from_lem, passes_to, finish_from, finish_to}
use Rattle.model.proofs.Levels.{LevelSane, LevelDone, level_to, level_from, level_end_to, level_end_from, level_sane, line_step_to, line_step_from, line_end_to, line_end_from, nulls_step}

-- the lexical side of a pair, and the letters left
spells_from : (a : ℕ) (rest xs us : List ℕ) → (rest ≡ [] → us ≡ []) → without_nulls (a ∷ xs) ≡ rest ++ us → T (spells rest a) × (without_nulls xs ≡ left rest a ++ us)
spells_from zero rest xs us f e = (tt, e)
spells_from (suc a) [] xs us f e = let u : us ≡ [] = f refl in let z : ◌≡◌ {A = ℕ} 0 1 = cc in absurd (omega arith)
spells_from (suc a) (x ∷ rest) xs us f e = (eq→eqb x (suc a) (sym (head-eq_of_cons-eq e)), tail-eq_of_cons-eq e)

spells_to : (a : ℕ) (rest xs us : List ℕ) → T (spells rest a) → without_nulls xs ≡ left rest a ++ us → without_nulls (a ∷ xs) ≡ rest ++ us
spells_to zero rest xs us t e = e
spells_to (suc a) [] xs us t e = absurd t
spells_to (suc a) (x ∷ rest) xs us t e = let d = eqb→eq x (suc a) t in cc

pub nil_from : (l : List ℕ) → T (is_nil l) → l ≡ []
nil_from [] t = refl
nil_from (x ∷ l) t = absurd t

append_nil_from : (l m : List ℕ) → l ++ m ≡ [] → l ≡ []
append_nil_from [] m e = refl
append_nil_from (x ∷ l) m e = let z : ◌≡◌ {A = ℕ} 0 1 = cc in absurd (omega arith)

pub opens_true : (n : Node) → opens n ≡ true → (n.rest ≡ []) × (n.ended ≡ false)
opens_true n h = let t = and_out (is_nil n.rest) (not n.ended) (of_true (opens n) h) in (nil_from n.rest t.0, not_out n.ended t.1)

shut : (l : List ℕ) (b : Bool) → (is_nil l && not b) ≡ false → l ≡ [] → b ≡ true
shut [] true h e = refl
shut [] false h e = absurd (true≢false h)
shut (x ∷ l) b h e = let z : ◌≡◌ {A = ℕ} 0 1 = cc in absurd (omega arith)

pub opens_false : (n : Node) → opens n ≡ false → n.rest ≡ [] → n.ended ≡ true
opens_false n h e = shut n.rest n.ended h e

-- the bounds that the walk keeps
pub record Sane (g : Grammar) (n : Node) : Type 0 where
  pub alive_states : T (alive g.rules g.next g.final n.states)
  pub entries_in : n.entries ≤ 16
  pub pairs_in_lem : n.pairs ≤ 40
  pub nulls_in : n.nulls ≤ 8
  pub surface_sane : LevelSane n.surface

-- the path from here on, unless it has ended
module _ (g : Grammar) where
  abbrev pub chained : Bool → (ℕ → Bool) → Bool → List ℕ → Bool
  chained true may stop es = is_nil es
  chained false may stop es = linked g.entries g.follows g.ends may stop es

-- the path and the pairing end what the node has begun
pub record Completes (g : Grammar) (q : Query) (n : Node) (es ps : List ℕ) : Type 0 where
  pub is_linked_lem : T (chained g n.ended n.ways n.stop es)
  pub entries_in : n.entries + length es ≤ 16
  pub pairs_in_lem : n.pairs + length ps ≤ 40
  pub listed : T (every (λ p. ltb p g.pairs) ps)
  pub forms_spelled : spelled g.lexical ps ≡ n.rest ++ joined (map g.form es)
  pub nulls_in : n.nulls + nulls (map g.lexical ps) ≤ 8
  pub surface_done : LevelDone g.surface q.letters n.surface ps
  pub spoken_done : LevelDone g.spoken q.spoken n.spoken ps
  pub passing : T (passes_from g.rules g.next g.final g.pairs n.states ps)
  pub path_asked : T (fits q.entries n.entries es)

module _ (g : Grammar) (q : Query) (n : Node) where
  -- the path from an entry on, the tests of one link
  abbrev onward : ℕ → List ℕ → Bool
  onward e es = linked g.entries g.follows g.ends (g.follows e) (g.ends e) es

  -- an entry opens
  pub enter_to : (e : ℕ) (es ps : List ℕ) → opens n ≡ true → suc e < count_at g q true n → T (may_at g q true n (suc e)) → Completes g q (go_at g q true n (suc e)) es ps → Completes g q n (e ∷ es) ps
  unfolding count_at may_at go_at linked
  enter_to e es ps o hi t c =
      let m = out3 (ltb n.entries 16) (n.ways e) (q.entries.allows n.entries e) t in
      record {
        is_linked_lem = rw (opens_true n o).1 (in3 (n.ways e) (ltb e g.entries) (onward e es) m.1 (lt→ltb e g.entries (omega (arith, hi))) c.is_linked_lem);
        entries_in = omega (arith, c.entries_in);
        pairs_in_lem = c.pairs_in_lem;
        listed = c.listed;
        forms_spelled = rw (opens_true n o).0 c.forms_spelled;
        nulls_in = c.nulls_in;
        surface_done = c.surface_done;
        spoken_done = c.spoken_done;
        passing = c.passing;
        path_asked = and_in (q.entries.allows n.entries e) (fits q.entries (suc n.entries) es) m.2 c.path_asked;
      }

  pub enter_from : (e : ℕ) (es ps : List ℕ) → opens n ≡ true → Completes g q n (e ∷ es) ps → (suc e < count_at g q true n) × T (may_at g q true n (suc e)) × Completes g q (go_at g q true n (suc e)) es ps
  unfolding count_at may_at go_at linked
  enter_from e es ps o c =
      let l = out3 (n.ways e) (ltb e g.entries) (onward e es) (rw (opens_true n o).1 at c.is_linked_lem) in
      let hi = ltb→lt e g.entries l.1 in
      let f = and_out (q.entries.allows n.entries e) (fits q.entries (suc n.entries) es) c.path_asked in
      let k : n.entries < 16 = omega (arith, c.entries_in) in (
        omega arith,
        in3 (ltb n.entries 16) (n.ways e) (q.entries.allows n.entries e) (lt→ltb n.entries 16 k) l.0 f.0,
        record {
          is_linked_lem = l.2;
          entries_in = omega (arith, c.entries_in);
          pairs_in_lem = c.pairs_in_lem;
          listed = c.listed;
          forms_spelled = rw (opens_true n o).0 at c.forms_spelled;
          nulls_in = c.nulls_in;
          surface_done = c.surface_done;
          spoken_done = c.spoken_done;
          passing = c.passing;
          path_asked = f.1;
        },
      )

  -- the path ends
  pub stop_to : (es ps : List ℕ) → opens n ≡ true → T (may_at g q true n 0) → Completes g q (go_at g q true n 0) es ps → Completes g q n es ps
  unfolding may_at go_at linked
  stop_to es ps o t c = record {
    is_linked_lem = rw ((opens_true n o).1, nil_from es c.is_linked_lem) t;
    entries_in = c.entries_in;
    pairs_in_lem = c.pairs_in_lem;
    listed = c.listed;
    forms_spelled = c.forms_spelled;
    nulls_in = c.nulls_in;
    surface_done = c.surface_done;
    spoken_done = c.spoken_done;
    passing = c.passing;
    path_asked = c.path_asked;
  }

  pub stop_from : (ps : List ℕ) → opens n ≡ true → Completes g q n [] ps → (0 < count_at g q true n) × T (may_at g q true n 0) × Completes g q (go_at g q true n 0) [] ps
  unfolding count_at may_at go_at linked
  stop_from ps o c = (
    omega arith,
    rw (opens_true n o).1 at c.is_linked_lem,
    record {
      is_linked_lem = tt;
      entries_in = c.entries_in;
      pairs_in_lem = c.pairs_in_lem;
      listed = c.listed;
      forms_spelled = c.forms_spelled;
      nulls_in = c.nulls_in;
      surface_done = c.surface_done;
      spoken_done = c.spoken_done;
      passing = c.passing;
      path_asked = c.path_asked;
    },
  )

  -- with no letter left, and no entry to open, there is no entry left
  pub no_entry : (es ps : List ℕ) → opens n ≡ false → Completes g q n es ps → n.rest ≡ [] → es ≡ []
  no_entry es ps o c e = nil_from es (rw (opens_false n o e) at c.is_linked_lem)

  -- what the two lines ask of a pair, and of the end
  abbrev surface_may : ℕ → Bool
  surface_may p = level_may g.surface q.letters n.surface p

  abbrev spoken_may : ℕ → Bool
  spoken_may p = line_may g.spoken q.spoken n.spoken p

  abbrev surface_ends : Bool
  surface_ends = level_ends g.surface q.letters n.surface

  abbrev spoken_ends : Bool
  spoken_ends = line_ends g.spoken q.spoken n.spoken

  -- a pair: its five tests
  abbrev live : ℕ → Bool
  live p = alive g.rules g.next g.final (step_all g.rules g.next g.final n.states p)

  Asks : ℕ → Type 0
  Asks p = T (spells n.rest (g.lexical p)) × T (ltb n.pairs 40) × T (leb (nulls_and n.nulls (g.lexical p)) 8) × T (surface_may p && spoken_may p) × T (live p)

  may_from : (p : ℕ) → T (may_at g q false n p) → Asks p
  unfolding may_at Asks
  may_from p t = out5 (spells n.rest (g.lexical p)) (ltb n.pairs 40) (leb (nulls_and n.nulls (g.lexical p)) 8) (surface_may p && spoken_may p) (live p) t

  may_to : (p : ℕ) → Asks p → T (may_at g q false n p)
  unfolding may_at Asks
  may_to p t = in5 (spells n.rest (g.lexical p)) (ltb n.pairs 40) (leb (nulls_and n.nulls (g.lexical p)) 8) (surface_may p && spoken_may p) (live p) t.0 t.1 t.2 t.3 t.4

  pub pair_to : (p : ℕ) (es ps : List ℕ) → T (alive g.rules g.next g.final n.states) → p < count_at g q false n → T (may_at g q false n p) → Completes g q (go_at g q false n p) es ps → Completes g q n es (p ∷ ps)
  unfolding count_at go_at Asks
  pair_to p es ps a hi t c =
      let m = may_from p t in
      let l = and_out (surface_may p) (spoken_may p) m.3 in
      record {
        is_linked_lem = c.is_linked_lem;
        entries_in = c.entries_in;
        pairs_in_lem = omega (arith, c.pairs_in_lem);
        listed = and_in (ltb p g.pairs) (every (λ p. ltb p g.pairs) ps) (lt→ltb p g.pairs hi) c.listed;
        forms_spelled = spells_to (g.lexical p) n.rest (map g.lexical ps) (joined (map g.form es)) m.0 c.forms_spelled;
        nulls_in = omega (arith, c.nulls_in, nulls_step n.nulls (g.lexical p) (map g.lexical ps));
        surface_done = level_to g.surface q.letters n.surface p ps l.0 c.surface_done;
        spoken_done = line_step_to g.spoken q.spoken n.spoken p ps l.1 c.spoken_done;
        passing = passes_to g.rules g.next g.final g.pairs p n.states ps a c.passing;
        path_asked = c.path_asked;
      }

  pub pair_from : (p : ℕ) (es ps : List ℕ) → opens n ≡ false → Completes g q n es (p ∷ ps) → (p < count_at g q false n) × T (may_at g q false n p) × Completes g q (go_at g q false n p) es ps
  unfolding count_at go_at Asks
  pair_from p es ps o c =
      let l = and_out (ltb p g.pairs) (every (λ p. ltb p g.pairs) ps) c.listed in
      let s = spells_from (g.lexical p) n.rest (map g.lexical ps) (joined (map g.form es)) (λ e. ap (λ (l : List ℕ). joined (map g.form l)) (no_entry es (p ∷ ps) o c e)) c.forms_spelled in
      let v = level_from g.surface q.letters n.surface p ps c.surface_done in
      let w = line_step_from g.spoken q.spoken n.spoken p ps c.spoken_done in
      let x = nulls_step n.nulls (g.lexical p) (map g.lexical ps) in
      let z = passes_from_lem g.rules g.next g.final g.pairs p n.states ps c.passing in
      let lives : T (live p) = passes_alive g.rules g.next g.final g.pairs (step_all g.rules g.next g.final n.states p) ps z in
      let k : n.pairs < 40 = omega (arith, c.pairs_in_lem) in
      let y : nulls_and n.nulls (g.lexical p) + nulls (map g.lexical ps) ≤ 8 = omega (arith, c.nulls_in, x) in (
        ltb→lt p g.pairs l.0,
        may_to p (s.0, lt→ltb n.pairs 40 k, le→leb (nulls_and n.nulls (g.lexical p)) 8 (omega arith), and_in (surface_may p) (spoken_may p) v.0 w.0, lives),
        record {
          is_linked_lem = c.is_linked_lem;
          entries_in = c.entries_in;
          pairs_in_lem = omega (arith, c.pairs_in_lem);
          listed = l.1;
          forms_spelled = s.1;
          nulls_in = y;
          surface_done = v.1;
          spoken_done = w.1;
          passing = z;
          path_asked = c.path_asked;
        },
      )

  -- the end: its five tests
  abbrev finishes : Bool
  finishes = finish g.rules g.next g.final n.states g.pairs

  pub end_to : Sane g n → T (complete g q n) → Completes g q n [] []
  unfolding complete linked
  end_to s t =
      let m = out5 (is_nil n.rest) n.ended (q.entries.may_end n.entries) (surface_ends && spoken_ends) finishes t in
      let l = and_out surface_ends spoken_ends m.3 in
      record {
        is_linked_lem = rw (true_of n.ended m.1) tt;
        entries_in = omega (arith, s.entries_in);
        pairs_in_lem = omega (arith, s.pairs_in_lem);
        listed = tt;
        forms_spelled = rw (nil_from n.rest m.0) refl;
        nulls_in = omega (arith, s.nulls_in);
        surface_done = level_end_to g.surface q.letters n.surface s.surface_sane l.0;
        spoken_done = line_end_to g.spoken q.spoken n.spoken l.1;
        passing = finish_to g.rules g.next g.final g.pairs n.states s.alive_states m.4;
        path_asked = m.2;
      }

  pub end_ended : T (complete g q n) → n.ended ≡ true
  unfolding complete
  end_ended t = true_of n.ended (out5 (is_nil n.rest) n.ended (q.entries.may_end n.entries) (surface_ends && spoken_ends) finishes t).1

  pub end_rest : (es : List ℕ) → Completes g q n es [] → n.rest ≡ []
  end_rest es c = append_nil_from n.rest (joined (map g.form es)) (sym c.forms_spelled)

  pub end_from : opens n ≡ false → Completes g q n [] [] → T (complete g q n)
  unfolding complete linked
  end_from o c =
      in5 (is_nil n.rest) n.ended (q.entries.may_end n.entries) (surface_ends && spoken_ends) finishes
      (rw (end_rest [] c) tt)
      (rw (opens_false n o (end_rest [] c)) tt)
      c.path_asked
      (and_in surface_ends spoken_ends (level_end_from g.surface q.letters n.surface c.surface_done) (line_end_from g.spoken q.spoken n.spoken c.spoken_done))
      (finish_from g.rules g.next g.final g.pairs n.states c.passing)

  -- the bounds hold after a step
  pub sane_step : (b : Bool) (x : ℕ) → Sane g n → T (may_at g q b n x) → Sane g (go_at g q b n x)
  unfolding may_at go_at Asks
  sane_step true zero s t = record { alive_states = s.alive_states; entries_in = s.entries_in; pairs_in_lem = s.pairs_in_lem; nulls_in = s.nulls_in; surface_sane = s.surface_sane }
  sane_step true (suc e) s t =
      let m = out3 (ltb n.entries 16) (n.ways e) (q.entries.allows n.entries e) t in
      let k = ltb→lt n.entries 16 m.0 in
      record { alive_states = s.alive_states; entries_in = omega arith; pairs_in_lem = s.pairs_in_lem; nulls_in = s.nulls_in; surface_sane = s.surface_sane }
  sane_step false p s t =
      let m = may_from p t in
      let l = and_out (surface_may p) (spoken_may p) m.3 in
      let k = ltb→lt n.pairs 40 m.1 in
      record {
        alive_states = m.4;
        entries_in = s.entries_in;
        pairs_in_lem = omega arith;
        nulls_in = leb→le (nulls_and n.nulls (g.lexical p)) 8 m.2;
        surface_sane = level_sane g.surface q.letters n.surface p l.0;
      }
