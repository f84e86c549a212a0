-- Each level's step, from the steps that it is made of.
use Prim.Native.Nat.{ℕ, zero, suc, ◌+◌, ◌-◌, ◌≤◌, ◌<◌}
use native.Mathlib.Omega.{arith}
use mathlib.Core.Bool.{Bool, true, false, ◌&&◌, ◌||◌}
use mathlib.Core.Path.{◌≡◌, refl, sym, ap, ap₂, ◌∙◌, fun_ext}
use mathlib.Core.List.{List}
use lib.ListN.{length, drop, length-drop}
use lib.Seq.{drop-drop}
use lib.Dec.{eqb}
use Rattle.contexts.specs.Context.{Context, any, star, sequence, either, bracket, Level, tight, side, whole}
use Rattle.contexts.specs.Reader.{starts_with, begins_atom, Read, failed, got, and_then, read_stars, closed, more_of_side, more_sides}
use Rattle.contexts.specs.Fuel.{read_text, read_atom, starred}
use Rattle.contexts.specs.Meaning.{Places, ends}
use Rattle.contexts.specs.Relation.{one, through}
use Rattle.contexts.proofs.Fuel.{shorter, unfold_tight, unfold_side, unfold_whole}
use Rattle.contexts.proofs.Soundness.{read_off}
use Rattle.contexts.proofs.Places.{Within}
use Rattle.contexts.proofs.Stars.{star_stars, ends_within}
use Rattle.contexts.proofs.Relation.{additive, star_row}
use Rattle.relations.specs.Rows.{row, RowsAre, Relates, Starred}
use Rattle.std.proofs.Common.{Option, Some, None}
use Rattle.matching.specs.Steps.{Follows}
use Rattle.matching.specs.declared.Step.{Step}
use lib.Dec.{eqb→eq}

-- tables of a context from those of its parts
pub through_same : (n : ℕ) (p : Places) (f g : ℕ → Places) → ((m : ℕ) → m < n → f m ≡ g m) → through n p f ≡ through n p g
through_same n p f g h = fun_ext (λ k. go n k h)
  where
    go : (n k : ℕ) → ((m : ℕ) → m < n → f m ≡ g m) → through n p f k ≡ through n p g k
    go zero k h = refl
    go (suc n) k h = ap₂ (λ (a b : Bool). a || (p n && b)) (go n k (λ m l. h m (omega arith))) (ap (λ (q : Places). q k) (h n (omega arith)))

module _ (s : List ℕ) where
  one_within : (j : ℕ) → j ≤ length s → Within s (one j)
  one_within j h i t = omega (arith, eqb→eq i j t)

  pub either_table : (c d : Context) (x y r : List ℕ) → Relates s c x → Relates s d y → RowsAre r (length s) (λ j k. row x j k || row y j k) → Relates s (either c d) r
  either_table c d x y r f g h j l = h j l ∙ ap₂ {C = Places} (λ (p q : Places) (k : ℕ). p k || q k) (f j l) (g j l)

  pub sequence_table : (c d : Context) (x y r : List ℕ) → Relates s c x → Relates s d y → RowsAre r (length s) (λ j. through (suc (length s)) (row x j) (row y)) → Relates s (sequence c d) r
  sequence_table c d x y r f g h j l =
      h j l
      ∙ ap (λ (p : Places). through (suc (length s)) p (row y)) (f j l)
      ∙ through_same (suc (length s)) (ends s c (one j)) (row y) (λ m. ends s d (one m)) (λ m k. g m (omega arith))
      ∙ sym (additive s d (ends s c (one j)) (ends_within s c (one j) (one_within j l)))

  pub star_table : (c : Context) (x r : List ℕ) → Relates s c x → Starred (row x) (length s) (row r) → Relates s (star c) r
  star_table c x r f g j l = go (length s) j l (omega arith)
    where
      go : (d j : ℕ) → j ≤ length s → length s ≤ j + d → row r j ≡ ends s (star c) (one j)
      go zero j l b =
          let q = g j l in
          q.1 ∙ ap {B = Places} (λ (p : Places) (k : ℕ). through (suc (length s)) p q.0 k || eqb k j) (f j l)
          ∙ star_row s c j q.0 l (λ m h i. absurd (omega arith)) q.3
      go (suc d) j l b =
          let q = g j l in
          q.1 ∙ ap {B = Places} (λ (p : Places) (k : ℕ). through (suc (length s)) p q.0 k || eqb k j) (f j l)
          ∙ star_row s c j q.0 l (λ m h i. q.2 m h i ∙ go d m i (omega arith)) q.3

  pub stars_table : (n : ℕ) (c : Context) (r : List ℕ) → Relates s (star c) r → Relates s (starred (suc n) c) r
  stars_table n c r f j l = f j l ∙ sym (star_stars s n c (one j) (one_within j l))

module _ (t s : List ℕ) where
  -- what a step that was read says
  pub record Known (x : Read) (a : Step) : Type 0 where
    pub context : Context
    pub rest : List ℕ
    pub same : x ≡ got context rest
    pub goes_on : rest ≡ drop a.at t
    pub inside : a.at ≤ length t
    pub relates : Relates s context a.rows

  stepped : (x : Read) (a : Step) → Follows t s x (Some a) → Known x a
  stepped failed a f = absurd f
  stepped (got c u) a f = record { context = c; rest = u; same = refl; goes_on = f.0; inside = f.1; relates = f.2 }

  pub known : (x : Read) (o : Option Step) (a : Step) → Follows t s x o → o ≡ Some a → Known x a
  known x o a f e = stepped x a (rw e at f)

  none_read : (x : Read) → Follows t s x None → x ≡ failed
  none_read failed f = refl
  none_read (got c u) f = absurd f

  pub missed : (x : Read) (o : Option Step) → Follows t s x o → o ≡ None → x ≡ failed
  missed x o f e = none_read x (rw e at f)

  -- the step of a text that begins with none, and of one that begins with c
  pub is_wrong : (x : Read) → x ≡ failed → Follows t s x None
  is_wrong x e = rw e tt

  pub is_right : (x : Read) (c : Context) (a : Step) → x ≡ got c (drop a.at t) → a.at ≤ length t → Relates s c a.rows → Follows t s x (Some a)
  is_right x c a e h f = rw e (refl, h, f)

  then_missed : (x : Read) (f : Context → List ℕ → Read) → x ≡ failed → and_then x f ≡ failed
  then_missed x f e = rw e refl

  then_known : (x : Read) (a : Step) (f : Context → List ℕ → Read) (k : Known x a) → and_then x f ≡ f k.context (drop a.at t)
  then_known x a f k = ap (λ (y : Read). and_then y f) k.same ∙ ap (f k.context) k.goes_on

  after_byte : (at : ℕ) → drop 1 (drop at t) ≡ drop (at + 1) t
  after_byte at = drop-drop 1 at t

  pub progress : (l : Level) (b from : ℕ) (a : Step) → from ≤ length t → Known (read_text l b (drop from t)) a → from < a.at
  unfolding read_text
  progress l b from a h k =
      let o = read_off (length (drop from t)) l b (drop from t) k.context k.rest k.same in
      omega (arith, shorter l b (drop from t) k.context k.rest o, length-drop from t, length-drop a.at t, ap length k.goes_on, k.inside)

  -- what stands at a place, with b brackets still to be opened
  module _ (b from : ℕ) where
    abbrev u : List ℕ
    u = drop from t

    -- atoms
    pub any_atom : (rows : List ℕ) → starts_with 40 u ≡ false → starts_with 46 u ≡ true → from < length t → Relates s any rows
        → Follows t s (read_atom read_text b u) (Some (record { at = from + 1; rows = rows }))
    any_atom rows e f h r =
        is_right (read_atom read_text b u) any (record { at = from + 1; rows = rows }) (rw (e, f) (ap (got any) (after_byte from))) (omega arith) r

    abbrev pub inner : Read
    inner = read_text whole (b - 1) (drop (from + 1) t)

    module _ (e : starts_with 40 u ≡ true) (f : b ≡ 0 → ⊥) where
      opened : read_atom read_text b u ≡ and_then inner closed
      opened = go b refl
        where
          go : (m : ℕ) → b ≡ m → read_atom read_text b u ≡ and_then inner closed
          go zero g = absurd (f g)
          go (suc m) g =
              let h : suc m - 1 ≡ m = omega arith in
              rw (e, g, h) (ap (λ (v : List ℕ). and_then (read_text whole m v) closed) (after_byte from))

      pub nothing_in_brackets : inner ≡ failed → Follows t s (read_atom read_text b u) None
      nothing_in_brackets g = is_wrong (read_atom read_text b u) (opened ∙ then_missed inner closed g)

      module _ (a : Step) (k : Known inner a) where
        pub not_closed : starts_with 41 (drop a.at t) ≡ false → Follows t s (read_atom read_text b u) None
        not_closed g = is_wrong (read_atom read_text b u) (opened ∙ then_known inner a closed k ∙ rw g refl)

        pub is_closed : starts_with 41 (drop a.at t) ≡ true → a.at < length t → Follows t s (read_atom read_text b u) (Some (record { at = a.at + 1; rows = a.rows }))
        is_closed g h =
            let same : closed k.context (drop a.at t) ≡ got (bracket k.context) (drop (a.at + 1) t) = rw g (ap (got (bracket k.context)) (after_byte a.at)) in
            is_right (read_atom read_text b u) (bracket k.context) (record { at = a.at + 1; rows = a.rows }) (opened ∙ then_known inner a closed k ∙ same) (omega arith) k.relates

    -- with the stars after it
    pub no_tight : read_atom read_text b u ≡ failed → Follows t s (read_text tight b u) None
    no_tight g = is_wrong (read_text tight b u) (unfold_tight b u ∙ then_missed (read_atom read_text b u) read_stars g)

    module _ (a : Step) (k : Known (read_atom read_text b u) a) (end : ℕ) (passed : (c : Context) → read_stars c (drop a.at t) ≡ got (starred (end - a.at) c) (drop end t)) where
      with_stars : read_text tight b u ≡ got (starred (end - a.at) k.context) (drop end t)
      with_stars = unfold_tight b u ∙ then_known (read_atom read_text b u) a read_stars k ∙ passed k.context

      pub no_stars : end ≡ a.at → Follows t s (read_text tight b u) (Some a)
      no_stars e =
          let z : end - a.at ≡ 0 = omega arith in
          is_right (read_text tight b u) k.context a (with_stars ∙ rw (z, e) refl) k.inside k.relates

      pub stars : (rows : List ℕ) → a.at ≤ end → (end ≡ a.at → ⊥) → end ≤ length t → Starred (row a.rows) (length s) (row rows)
          → Follows t s (read_text tight b u) (Some (record { at = end; rows = rows }))
      stars rows h d l f =
          let m = end - a.at - 1 in
          let z : end - a.at ≡ suc m = omega arith in
          is_right (read_text tight b u) (starred (suc m) k.context) (record { at = end; rows = rows })
          (with_stars ∙ ap (λ (n : ℕ). got (starred n k.context) (drop end t)) z) l (stars_table s m k.context rows (star_table s k.context a.rows rows k.relates f))

    -- sides
    abbrev goes_on_side : Context → List ℕ → Read
    goes_on_side c r = more_of_side read_text b c (begins_atom r) r

    pub no_side : read_text tight b u ≡ failed → Follows t s (read_text side b u) None
    no_side g = is_wrong (read_text side b u) (unfold_side b u ∙ then_missed (read_text tight b u) goes_on_side g)

    module _ (a : Step) (k : Known (read_text tight b u) a) where
      first_of_side : read_text side b u ≡ goes_on_side k.context (drop a.at t)
      first_of_side = unfold_side b u ∙ then_known (read_text tight b u) a goes_on_side k

      pub last_of_side : begins_atom (drop a.at t) ≡ false → Follows t s (read_text side b u) (Some a)
      last_of_side e = is_right (read_text side b u) k.context a (first_of_side ∙ rw e refl) k.inside k.relates

      abbrev pub further : Read
      further = read_text side b (drop a.at t)

      module _ (e : begins_atom (drop a.at t) ≡ true) where
        followed : read_text side b u ≡ and_then further (λ d r. got (sequence k.context d) r)
        followed = first_of_side ∙ rw e refl

        pub not_followed : further ≡ failed → Follows t s (read_text side b u) None
        not_followed g = is_wrong (read_text side b u) (followed ∙ then_missed further (λ d r. got (sequence k.context d) r) g)

        pub one_after_other : (d : Step) (rows : List ℕ) → Known further d → RowsAre rows (length s) (λ j. through (suc (length s)) (row a.rows j) (row d.rows))
            → Follows t s (read_text side b u) (Some (record { at = d.at; rows = rows }))
        one_after_other d rows l h =
            is_right (read_text side b u) (sequence k.context l.context) (record { at = d.at; rows = rows })
            (followed ∙ then_known further d (λ d r. got (sequence k.context d) r) l) l.inside (sequence_table s k.context l.context a.rows d.rows rows k.relates l.relates h)

    -- a whole context
    abbrev goes_on_whole : Context → List ℕ → Read
    goes_on_whole c r = more_sides read_text b c (starts_with 124 r) r

    pub no_whole : read_text side b u ≡ failed → Follows t s (read_text whole b u) None
    no_whole g = is_wrong (read_text whole b u) (unfold_whole b u ∙ then_missed (read_text side b u) goes_on_whole g)

    module _ (a : Step) (k : Known (read_text side b u) a) where
      first_of_whole : read_text whole b u ≡ goes_on_whole k.context (drop a.at t)
      first_of_whole = unfold_whole b u ∙ then_known (read_text side b u) a goes_on_whole k

      pub last_of_whole : starts_with 124 (drop a.at t) ≡ false → Follows t s (read_text whole b u) (Some a)
      last_of_whole e = is_right (read_text whole b u) k.context a (first_of_whole ∙ rw e refl) k.inside k.relates

      abbrev pub others : Read
      others = read_text whole b (drop (a.at + 1) t)

      module _ (e : starts_with 124 (drop a.at t) ≡ true) where
        barred : read_text whole b u ≡ and_then others (λ d r. got (either k.context d) r)
        barred = first_of_whole ∙ rw (e, after_byte a.at) refl

        pub no_others : others ≡ failed → Follows t s (read_text whole b u) None
        no_others g = is_wrong (read_text whole b u) (barred ∙ then_missed others (λ d r. got (either k.context d) r) g)

        pub one_or_other : (d : Step) (rows : List ℕ) → Known others d → RowsAre rows (length s) (λ j k. row a.rows j k || row d.rows j k)
            → Follows t s (read_text whole b u) (Some (record { at = d.at; rows = rows }))
        one_or_other d rows l h =
            is_right (read_text whole b u) (either k.context l.context) (record { at = d.at; rows = rows })
            (barred ∙ then_known others d (λ d r. got (either k.context d) r) l) l.inside (either_table s k.context l.context a.rows d.rows rows k.relates l.relates h)
