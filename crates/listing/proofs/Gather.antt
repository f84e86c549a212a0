-- What the code gathers is the list of all readings; and what is gathered from a node, by whether an entry opens there.
use Prim.Native.Nat.{ℕ, zero, suc, ◌<◌}
use native.Mathlib.Omega.{arith}
use mathlib.Core.Bool.{Bool, true, false, ◌&&◌, not, true≢false}
use mathlib.Core.Path.{◌≡◌, refl, sym, ap, ap₂, ◌∙◌, subst}
use mathlib.Core.List.{List, [], ◌∷◌, ◌++◌, map, append_assoc, append-nil}
use Rattle.model.specs.Lists.{below, given, flat_map}
use Rattle.model.specs.Grammar.{Grammar}
use Rattle.model.specs.Readings.{Reading}
use Rattle.model.specs.Query.{Query}
use Rattle.model.specs.Walk.{walk}
use Rattle.model.specs.Tree.{Node, opens, is_nil, alive, count_at, may_at, go_at, complete, tree, put, reading_at, start, readings}
use Rattle.model.proofs.Lists.{map_append, map_same, flat_map_below}
use Rattle.model.proofs.Parts.{flat_map_same}
use Rattle.model.proofs.Booleans.{and_out, not_out, of_true}
use Rattle.listing.specs.Gather.{grow, gather, steps_left, steps_from}

-- maps and joins together
module _ {A B C : Type 0} where
  map_flat_map : (f : B → C) (h : A → List B) (xs : List A) → map f (flat_map h xs) ≡ flat_map (λ x. map f (h x)) xs
  map_flat_map f h [] = refl
  map_flat_map f h (x ∷ xs) = map_append f (h x) (flat_map h xs) ∙ ap (λ (l : List C). map f (h x) ++ l) (map_flat_map f h xs)

  map_map : (f : B → C) (h : A → B) (xs : List A) → map f (map h xs) ≡ map (λ x. f (h x)) xs
  map_map f h [] = refl
  map_map f h (x ∷ xs) = ap {B = List C} (λ l. f (h x) ∷ l) (map_map f h xs)

module _ {A B : Type 0} where
  map_given : (f : A → B) (b : Bool) (l : List A) → map f (given b l) ≡ given b (map f l)
  map_given f true l = refl
  map_given f false l = refl

-- the first apart from those after it
flat_map_first : {B : Type 0} (f : ℕ → List B) (n : ℕ) → flat_map f (below (suc n)) ≡ f 0 ++ flat_map (λ i. f (suc i)) (below n)
flat_map_first f zero = refl
flat_map_first f (suc n) =
    flat_map_below f (suc n)
    ∙ ap (λ (l : List _). l ++ f (suc n)) (flat_map_first f n)
    ∙ append_assoc (f 0) (flat_map (λ i. f (suc i)) (below n)) (f (suc n))
    ∙ ap (λ (l : List _). f 0 ++ l) (sym (flat_map_below (λ i. f (suc i)) n))

abbrev join : Reading → Reading → Reading
join r s = record { path = r.path ++ s.path; pairing = r.pairing ++ s.pairing }

abbrev nothing : Reading
nothing = record { path = []; pairing = [] }

module _ (g : Grammar) (q : Query) where
  join_grow : (b : Bool) (r s : Reading) (x : ℕ) → join (grow b r x) s ≡ join r (put g q b x s)
  join_grow true r s zero = refl
  join_grow true r s (suc e) = ap (λ (l : List ℕ). record { path = l; pairing = r.pairing ++ s.pairing }) (append_assoc r.path (e ∷ []) s.path)
  join_grow false r s p = ap (λ (l : List ℕ). record { path = r.path ++ s.path; pairing = l }) (append_assoc r.pairing (p ∷ []) s.pairing)

  join_nothing : (r : Reading) → join r nothing ≡ r
  join_nothing r = ap₂ {C = Reading} (λ (es ps : List ℕ). record { path = es; pairing = ps }) (append-nil r.path) (append-nil r.pairing)

  -- the reading of a step list, after r
  abbrev after : Node → Reading → List ℕ → Reading
  after n r l = join r (reading_at g q n l)

  end_is : (b : Bool) (n : Node) (r : Reading) → given b (r ∷ []) ≡ map (after n r) (given b ([] ∷ []))
  unfolding reading_at
  end_is b n r = sym (map_given (after n r) b ([] ∷ []) ∙ ap (λ (s : Reading). given b (s ∷ [])) (join_nothing r))

  step_is : (n : Node) (r : Reading) (x : ℕ) (ls : List (List ℕ)) → map (after (go_at g q (opens n) n x) (grow (opens n) r x)) ls ≡ map (after n r) (map (λ l. x ∷ l) ls)
  unfolding reading_at
  step_is n r x ls = map_same (after (go_at g q (opens n) n x) (grow (opens n) r x)) (λ l. after n r (x ∷ l)) ls (λ l m. join_grow (opens n) r (reading_at g q (go_at g q (opens n) n x) l) x) ∙ sym (map_map (after n r) (λ l. x ∷ l) ls)

  pub gather_walk : (k : ℕ) (n : Node) (r : Reading) → gather g q k n r ≡ map (after n r) (walk (tree g q) k n)
  unfolding gather walk
  gather_walk zero n r = end_is (complete g q n) n r
  gather_walk (suc k) n r =
      let xs = below (count_at g q (opens n) n) in
      let found : ℕ → List Reading = λ x. given (may_at g q (opens n) n x) (gather g q k (go_at g q (opens n) n x) (grow (opens n) r x)) in
      let lists : ℕ → List (List ℕ) = λ x. given (may_at g q (opens n) n x) (map (λ l. x ∷ l) (walk (tree g q) k (go_at g q (opens n) n x))) in
      ap₂ (λ (x y : List Reading). x ++ y) (end_is (complete g q n) n r)
      (flat_map_same found (λ x. map (after n r) (lists x)) xs
      (λ x m.
      ap (given (may_at g q (opens n) n x)) (gather_walk k (go_at g q (opens n) n x) (grow (opens n) r x) ∙ step_is n r x (walk (tree g q) k (go_at g q (opens n) n x)))
      ∙ sym (map_given (after n r) (may_at g q (opens n) n x) (map (λ l. x ∷ l) (walk (tree g q) k (go_at g q (opens n) n x)))))
      ∙ sym (map_flat_map (after n r) lists xs))
      ∙ sym (map_append (after n r) (given (complete g q n) ([] ∷ [])) (flat_map lists xs))

  -- the whole search, from the start with nothing read, where no rule fails at the front
  pub readings_gathered : readings g q ≡ given (alive g.rules g.next g.final (start g q).states) (gather g q 57 (start g q) nothing)
  unfolding readings
  readings_gathered =
      ap (given (alive g.rules g.next g.final (start g q).states))
      (map_same (reading_at g q (start g q)) (after (start g q) nothing) (walk (tree g q) 57 (start g q)) (λ l m. refl) ∙ sym (gather_walk 57 (start g q) nothing))

  -- one node's own steps
  abbrev pub branch : ℕ → Node → Reading → Bool → ℕ → List Reading
  branch k n r b x = given (may_at g q b n x) (gather g q k (go_at g q b n x) (grow b r x))

  complete_open : (n : Node) → opens n ≡ true → complete g q n ≡ false
  unfolding complete
  complete_open n o = go (is_nil n.rest) n.ended _ _ _ o
    where
      go : (a b x y z : Bool) → (a && not b) ≡ true → (a && b && x && y && z) ≡ false
      go true true x y z e = absurd (true≢false (sym e))
      go true false x y z e = refl
      go false b x y z e = refl

  pub gather_last : (n : Node) (r : Reading) → gather g q zero n r ≡ given (complete g q n) (r ∷ [])
  unfolding gather
  gather_last n r = refl

  -- where an entry opens, nothing is complete: the path ends first, or goes on with an entry
  pub gather_open : (k : ℕ) (n : Node) (r : Reading) → opens n ≡ true → gather g q (suc k) n r ≡ branch k n r true 0 ++ flat_map (λ e. branch k n r true (suc e)) (below g.entries)
  unfolding gather count_at
  gather_open k n r o =
      rw (complete_open n o)
      (subst (λ (b : Bool). flat_map (branch k n r b) (below (count_at g q b n)) ≡ branch k n r true 0 ++ flat_map (λ e. branch k n r true (suc e)) (below g.entries)) (sym o) (flat_map_first (branch k n r true) g.entries))

  -- where none opens, what ends here stands first
  pub gather_pair : (k : ℕ) (n : Node) (r : Reading) → opens n ≡ false → gather g q (suc k) n r ≡ given (complete g q n) (r ∷ []) ++ flat_map (branch k n r false) (below g.pairs)
  unfolding gather count_at
  gather_pair k n r o = subst (λ (b : Bool). given (complete g q n) (r ∷ []) ++ flat_map (branch k n r b) (below (count_at g q b n)) ≡ given (complete g q n) (r ∷ []) ++ flat_map (branch k n r false) (below g.pairs)) (sym o) refl

  -- a step takes a place
  opens_goes_on : (n : Node) → opens n ≡ true → n.ended ≡ false
  opens_goes_on n o = not_out n.ended (and_out (is_nil n.rest) (not n.ended) (of_true (opens n) o)).1

  pub steps_from_stop : (n : Node) → opens n ≡ true → steps_from n ≡ suc (steps_from (go_at g q true n 0))
  unfolding steps_from go_at
  steps_from_stop n o = rw (opens_goes_on n o) refl

  pub steps_from_enter : (n : Node) (e : ℕ) → opens n ≡ true → n.entries < 16 → steps_from n ≡ suc (steps_from (go_at g q true n (suc e)))
  unfolding steps_from go_at
  steps_from_enter n e o h = rw (opens_goes_on n o) (omega arith)

  pub steps_from_pair : (n : Node) (p : ℕ) → n.pairs < 40 → steps_from n ≡ suc (steps_from (go_at g q false n p))
  unfolding steps_from go_at
  steps_from_pair n p h = go n.ended
    where
      go : (ended : Bool) → steps_left ended n.entries n.pairs ≡ suc (steps_left ended n.entries (suc n.pairs))
      go true = omega arith
      go false = omega arith
