-- The listing theorem: for every grammar and query, `readings` has only readings that answer the query, has every one of them, and ascends strictly by
-- the step lists with endings, so each stands once; and any list with these properties equals it. Document 01's step lists are proofs/Endings.antt's.
use Prim.Native.Nat.{ℕ, zero, suc, ◌+◌, ◌<◌, ◌≤◌}
use mathlib.Core.Bool.{Bool, true, false}
use mathlib.Core.Path.{◌≡◌, refl, sym, ap, ◌∙◌, subst}
use mathlib.Core.Logic.{◌↔◌}
use mathlib.Core.List.Memᴰ
use mathlib.Core.List.{List, [], ◌∷◌, map, Memᴰ}
use lib.ListN.{length}
use lib.Dec.{T, leb→le, le→leb}
use native.Mathlib.Omega.{arith}
use Rattle.model.specs.Lists.{given}
use Rattle.model.specs.Grammar.{Grammar}
use Rattle.model.specs.Lexicon.{linked, path_length}
use Rattle.model.specs.Readings.{Reading, nulls, spelled, few_nulls, word_length, passes, is_path, is_linked, word, is_reading, steps, ending_steps, Ascending}
use Rattle.model.specs.Query.{Query, answers}
use Rattle.model.specs.Walk.{Accepts, walk}
use Rattle.model.specs.Tree.{Node, opens, alive, count_at, may_at, go_at, tree, start, put, reading_at, readings}
use Rattle.model.proofs.Booleans.{and_out, and_in, of_true, within_out, within_in}
use Rattle.model.proofs.Lists.{map_from}
use Rattle.model.proofs.Order.{Once, ascending_once, ascending_unique}
use Rattle.model.proofs.Walk.{walk_from, walk_has, walk_ascending}
use Rattle.model.proofs.Rules.{passes_alive, start_to, start_from}
use Rattle.model.proofs.Levels.{line_from, line_to}
use Rattle.model.proofs.Readings.{parts_of, of_parts, answers_out, answers_in}
use Rattle.model.proofs.Steps.{steps_to_come, steps_zero, steps_end, steps_enter, steps_pair, steps_none, steps_length, left_length}
use Rattle.model.proofs.Completes.{Sane, Completes, nil_from, opens_true, opens_false, stop_to, stop_from, end_ended, enter_to, enter_from, pair_to, pair_from, no_entry, end_to, end_rest, end_from, sane_step}

-- a list of all readings that answer the query, each before those after it by its step list
pub record ListsBy (order : Reading → List ℕ) (g : Grammar) (q : Query) (l : List Reading) : Type 0 where
  pub only : (r : Reading) → Memᴰ r l → T (is_reading g r) × T (answers g q r)
  pub every_one : (r : Reading) → T (is_reading g r) → T (answers g q r) → Memᴰ r l
  pub in_order : Ascending (map order l)

-- in document 01's step order
abbrev pub IsListing : Grammar → Query → List Reading → Type 0
IsListing g q l = ListsBy (steps g) g q l

-- by whatever order: each once, and there is one such list
module _ {order : Reading → List ℕ} {g : Grammar} {q : Query} where
  pub listing_once : (l : List Reading) → ListsBy order g q l → Once l
  listing_once l i = ascending_once order l i.in_order

  pub listing_unique : (l m : List Reading) → ListsBy order g q l → ListsBy order g q m → l ≡ m
  listing_unique l m i j =
      ascending_unique order l m i.in_order j.in_order
      (λ r h. j.every_one r (i.only r h).0 (i.only r h).1, λ r h. i.every_one r (j.only r h).0 (j.only r h).1)

  pub listing_iff : (m : List Reading) → ListsBy order g q m → (l : List Reading) → ListsBy order g q l ↔ (l ≡ m)
  listing_iff m j l = (λ i. listing_unique l m i j, λ e. subst (ListsBy order g q) (sym e) j)

length_zero : (l : List ℕ) → length l ≡ 0 → l ≡ []
length_zero [] e = refl
length_zero (x ∷ l) e = absurd (omega arith)

map_back : (f : Reading → List ℕ) (h : List ℕ → Reading) (ls : List (List ℕ)) → ((l : List ℕ) → Memᴰ l ls → f (h l) ≡ l) → map f (map h ls) ≡ ls
map_back f h [] e = refl
map_back f h (l ∷ ls) e =
    let a = e l (Memᴰ.head refl) in
    let b = map_back f h ls (λ m k. e m (Memᴰ.tail k)) in
    cc

module _ (g : Grammar) (q : Query) where
  -- the steps that a reading has left at a node
  abbrev steps_at : Node → Reading → List ℕ
  steps_at n r = steps_to_come g n.ended (length n.rest) r.path r.pairing

  abbrev Step : Node → ℕ → List ℕ → Bool → Type 0
  Step n x l b = (x < count_at g q b n) × T (may_at g q b n x) × Accepts (tree g q) (go_at g q b n x) l

  steps_put : (n : Node) (b : Bool) (x : ℕ) (r : Reading) → opens n ≡ b → Completes g q (go_at g q b n x) r.path r.pairing → steps_at n (put g q b x r) ≡ x ∷ steps_at (go_at g q b n x) r
  unfolding go_at
  steps_put n true zero r o c = rw ((opens_true n o).0, (opens_true n o).1, nil_from r.path c.is_linked_lem) (steps_end g r.pairing)
  steps_put n true (suc e) r o c = rw ((opens_true n o).0, (opens_true n o).1) (steps_enter g e r.path r.pairing)
  steps_put n false p r o c = rw (left_length (g.lexical p) n.rest) (steps_pair g n.ended (length n.rest) p r.path r.pairing (λ k. opens_false n o (length_zero n.rest k)))

  -- what is accepted reads as what completes the node, and has its steps
  Sound : Node → List ℕ → Type 0
  Sound n l = Completes g q n (reading_at g q n l).path (reading_at g q n l).pairing × (steps_at n (reading_at g q n l) ≡ l)

  put_completes : (n : Node) (b : Bool) (x : ℕ) (r : Reading) → opens n ≡ b → Sane g n → x < count_at g q b n → T (may_at g q b n x) → Completes g q (go_at g q b n x) r.path r.pairing → Completes g q n (put g q b x r).path (put g q b x r).pairing
  put_completes n true zero r o s hi t c = stop_to g q n r.path r.pairing o t c
  put_completes n true (suc e) r o s hi t c = enter_to g q n e r.path r.pairing o hi t c
  put_completes n false p r o s hi t c = pair_to g q n p r.path r.pairing s.alive_states hi t c

  sound_step : (n : Node) (x : ℕ) (l : List ℕ) (b : Bool) → opens n ≡ b → Sane g n → Step n x l b → (Sane g (go_at g q b n x) → Accepts (tree g q) (go_at g q b n x) l → Sound (go_at g q b n x) l)
      → Completes g q n (put g q b x (reading_at g q (go_at g q b n x) l)).path (put g q b x (reading_at g q (go_at g q b n x) l)).pairing × (steps_at n (put g q b x (reading_at g q (go_at g q b n x) l)) ≡ x ∷ l)
  unfolding Sound
  sound_step n x l b o s a f =
      let r = reading_at g q (go_at g q b n x) l in
      let h = f (sane_step g q n b x s a.1) a.2 in
      (put_completes n b x r o s a.0 a.1 h.0, steps_put n b x r o h.0 ∙ ap {B = List ℕ} (λ m. x ∷ m) h.1)

  sound : (l : List ℕ) (n : Node) → Sane g n → Accepts (tree g q) n l → Sound n l
  unfolding Sound reading_at
  sound [] n s a = let c = end_to g q n s a in (c, rw (end_ended g q n a) (steps_none g (length n.rest)))
  sound (x ∷ l) n s a = sound_step n x l (opens n) refl s a (sound l (go_at g q (opens n) n x))

  -- and back: the steps of what completes a node are accepted, and read as it
  abbrev Whole : Node → Reading → Type 0
  Whole n r = Accepts (tree g q) n (steps_at n r) × (reading_at g q n (steps_at n r) ≡ r)

  whole_put : (n : Node) (b : Bool) (x : ℕ) (r : Reading) → opens n ≡ b → (x < count_at g q b n) × T (may_at g q b n x) × Completes g q (go_at g q b n x) r.path r.pairing → Whole (go_at g q b n x) r → Whole n (put g q b x r)
  unfolding reading_at
  whole_put n b x r o t w =
      let l = steps_at (go_at g q b n x) r in
      rw (steps_put n b x r o t.2) (subst (Step n x l) (sym o) (t.0, t.1, w.0), subst (λ (c : Bool). put g q c x (reading_at g q (go_at g q c n x) l) ≡ put g q b x r) (sym o) (ap (put g q b x) w.1))

  -- what is left: the ending, entries and pairs
  abbrev due : Bool → ℕ
  due true = 0
  due false = 1

  abbrev size : Node → List ℕ → List ℕ → ℕ
  size n es ps = due n.ended + length es + length ps

  whole_step : (n : Node) (b : Bool) (es ps : List ℕ) → opens n ≡ b → Completes g q n es ps
      → ((n' : Node) (es' ps' : List ℕ) → suc (size n' es' ps') ≡ size n es ps → Completes g q n' es' ps' → Whole n' (record { path = es'; pairing = ps' }))
      → Whole n (record { path = es; pairing = ps })
  unfolding reading_at go_at
  whole_step n true [] ps o c r =
      let t = stop_from g q n ps o c in
      let e : due n.ended ≡ 1 = ap due (opens_true n o).1 in
      whole_put n true 0 (record { path = []; pairing = ps }) o t (r (go_at g q true n 0) [] ps (omega arith) t.2)
  whole_step n true (e ∷ es) ps o c r =
      let t = enter_from g q n e es ps o c in
      let d : due n.ended ≡ 1 = ap due (opens_true n o).1 in
      whole_put n true (suc e) (record { path = es; pairing = ps }) o t (r (go_at g q true n (suc e)) es ps (omega arith) t.2)
  whole_step n false [] [] o c r =
      subst (λ (l : List ℕ). Accepts (tree g q) n l × (reading_at g q n l ≡ record { path = []; pairing = [] }))
      (sym (ap (λ (d : Bool). steps_to_come g d (length n.rest) [] []) (opens_false n o (end_rest g q n [] c)) ∙ steps_none g (length n.rest))) (end_from g q n o c, refl)
  whole_step n false (e ∷ es) [] o c r = let d = no_entry g q n (e ∷ es) [] o c (end_rest g q n (e ∷ es) c) in let z : ◌≡◌ {A = ℕ} 0 1 = cc in absurd (omega arith)
  whole_step n false es (p ∷ ps) o c r =
      let t = pair_from g q n p es ps o c in
      whole_put n false p (record { path = es; pairing = ps }) o t (r (go_at g q false n p) es ps (omega arith) t.2)

  whole : (k : ℕ) (n : Node) (es ps : List ℕ) → size n es ps ≡ k → Completes g q n es ps → Whole n (record { path = es; pairing = ps })
  whole zero n es ps h c = whole_step n (opens n) es ps refl c (λ n' es' ps' e. absurd (omega arith))
  whole (suc k) n es ps h c = whole_step n (opens n) es ps refl c (λ n' es' ps' e c'. whole k n' es' ps' (omega arith) c')

  -- at the start: what completes it is a reading that answers
  abbrev starts : Bool
  starts = alive g.rules g.next g.final (start g q).states

  sane_start : T starts → Sane g (start g q)
  unfolding start
  sane_start a = record { alive_states = a; entries_in = omega arith; pairs_in_lem = omega arith; nulls_in = omega arith; surface_sane = record { letters_in = omega arith; nulls_in = omega arith } }

  completes_from : (r : Reading) → T (is_reading g r) → T (answers g q r) → Completes g q (start g q) r.path r.pairing
  unfolding is_path passes start
  completes_from r t a =
      let es = r.path in
      let ps = r.pairing in
      let m = parts_of g r t in
      let f = answers_out g r q a in
      let p = and_out (path_length es) (is_linked g es) m.path_right in
      let h1 = within_out 1 16 (length es) p.0 in
      let h2 = within_out 1 40 (length ps) m.pairs_few in
      let h3 = leb→le (nulls (map g.lexical ps)) 8 m.nulls_few in
      record {
        is_linked_lem = p.1;
        entries_in = omega arith;
        pairs_in_lem = omega arith;
        listed = m.pairs_listed;
        forms_spelled = m.forms_spelled;
        nulls_in = omega arith;
        surface_done = line_from g.surface q.letters ps m.surface_right f.1;
        spoken_done = line_from g.spoken q.spoken ps m.spoken_right f.2;
        passing = start_to g.rules g.next g.final g.pairs ps m.passing;
        path_asked = f.0;
      }

  path_some : (es : List ℕ) → T (is_linked g es) → 1 ≤ length es
  unfolding linked
  path_some [] t = absurd t
  path_some (e ∷ es) t = omega arith

  pairing_some : (ps : List ℕ) → 1 ≤ length (spelled g.surface ps) → 1 ≤ length ps
  pairing_some [] h = absurd (omega arith)
  pairing_some (p ∷ ps) h = omega arith

  completes_to : (r : Reading) → Completes g q (start g q) r.path r.pairing → T (is_reading g r) × T (answers g q r)
  unfolding is_path passes start
  completes_to r c =
      let es = r.path in
      let ps = r.pairing in
      let surface = line_to g.surface q.letters ps c.surface_done in
      let some = (within_out 1 32 (length (word g r)) (and_out (word_length (word g r)) (few_nulls g.surface ps) surface).0).0 in (
        of_parts g r
            (record {
              path_right = and_in (path_length es) (is_linked g es) (within_in 1 16 (length es) (path_some es c.is_linked_lem) (omega (arith, c.entries_in))) c.is_linked_lem;
              pairs_few = within_in 1 40 (length ps) (pairing_some ps some) (omega (arith, c.pairs_in_lem));
              pairs_listed = c.listed;
              forms_spelled = c.forms_spelled;
              nulls_few = le→leb (nulls (map g.lexical ps)) 8 (omega (arith, c.nulls_in));
              surface_right = surface;
              spoken_right = line_to g.spoken q.spoken ps c.spoken_done;
              passing = start_from g.rules g.next g.final g.pairs ps c.passing;
            }),
        answers_in g r q c.path_asked c.surface_done.asked c.spoken_done.asked,
      )

  -- what the walk from the start lists, as readings
  listed_sound : T starts → (l : List ℕ) → Memᴰ l (walk (tree g q) 57 (start g q)) → Sound (start g q) l
  listed_sound a l h = sound l (start g q) (sane_start a) (walk_from (tree g q) 57 (start g q) l h)

  listed_steps : T starts → (l : List ℕ) → Memᴰ l (walk (tree g q) 57 (start g q)) → ending_steps g (reading_at g q (start g q) l) ≡ l
  unfolding Sound start
  listed_steps a l h = let r = reading_at g q (start g q) l in sym (steps_zero g false r.path r.pairing) ∙ (listed_sound a l h).1

  steps_few : (r : Reading) → Completes g q (start g q) r.path r.pairing → length (steps_at (start g q) r) ≤ 57
  unfolding start
  steps_few r c = omega (arith, steps_length g r.path r.pairing, c.entries_in, c.pairs_in_lem)

  abbrev found : List Reading
  found = map (reading_at g q (start g q)) (walk (tree g q) 57 (start g q))

  guarded : (b : Bool) → starts ≡ b → ListsBy (ending_steps g) g q (given b found)
  unfolding Sound
  guarded true e = record { only = only; every_one = every_one; in_order = in_order }
    where
      begun : T starts
      begun = of_true starts e

      only : (r : Reading) → Memᴰ r found → T (is_reading g r) × T (answers g q r)
      only r h =
          let t = map_from (reading_at g q (start g q)) (walk (tree g q) 57 (start g q)) h in
          rw t.2 (completes_to (reading_at g q (start g q) t.0) (listed_sound begun t.0 t.1).0)

      every_one : (r : Reading) → T (is_reading g r) → T (answers g q r) → Memᴰ r found
      every_one r t a =
          let c = completes_from r t a in
          let w = whole (size (start g q) r.path r.pairing) (start g q) r.path r.pairing refl c in
          Memᴰ.cast (sym w.1) (Memᴰ.map (reading_at g q (start g q)) (walk_has (tree g q) 57 (start g q) (steps_at (start g q) r) w.0 (steps_few r c)))

      in_order : Ascending (map (ending_steps g) found)
      in_order = rw (map_back (ending_steps g) (reading_at g q (start g q)) (walk (tree g q) 57 (start g q)) (listed_steps begun)) (walk_ascending (tree g q) 57 (start g q))
  guarded false e = record { only = λ r. elim [ ]; every_one = λ r t a. absurd (subst T e (passes_alive g.rules g.next g.final g.pairs (start g q).states r.pairing (completes_from r t a).passing)); in_order = tt }

  pub listing : ListsBy (ending_steps g) g q (readings g q)
  unfolding readings
  listing = guarded starts refl
