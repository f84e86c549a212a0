-- A rule is obeyed exactly when its operator, in plain words, is kept at every place of the pairing.
use Prim.Native.Nat.{ℕ, zero, suc, ◌-◌, ◌≤◌, ◌<◌}
use mathlib.Core.Bool.{Bool, true, false, ◌&&◌, ◌||◌, not}
use mathlib.Core.Path.{◌≡◌, refl, sym, ap, ap₂, subst}
use mathlib.Core.Logic.{◌↔◌, ◌⊎◌, inl, inr}
use mathlib.Core.List.{List, [], ◌∷◌}
use lib.ListN.{length, get_or, length-append, get_or-append}
use lib.Dec.{T, leb, eqb, eqb→eq, leb→le, le→leb}
use native.Mathlib.Omega.{arith}
use native.Mathlib.Decide.{ℕ_discrete}
use Rattle.contexts.specs.Reader.{Written, everywhere, where_it_runs, wrong}
use Rattle.contexts.specs.Meaning.{ends}
use Rattle.contexts.specs.Operators.{Left, Right, Operator, only-there, always-there, both, never-there, Rule, bounded, There, Kept, KeptThroughout, kept, all, some, left, right, there, obeys}
use Rattle.model.proofs.Booleans.{and_out, and_in, left_or, right_or, eq→eqb}
use Rattle.contexts.proofs.Booleans.{or_out}
use Rattle.contexts.proofs.Places.{places_iff, ends_iff}

implies_out : (a b : Bool) → T (not a || b) → T a → T b
implies_out true b h t = h
implies_out false b h t = absurd t

implies_in : (a b : Bool) → (T a → T b) → T (not a || b)
implies_in true b h = h tt
implies_in false b h = tt

not_out : (a : Bool) → T (not a) → T a → ⊥
not_out true h t = h
not_out false h t = t

pub not_in : (a : Bool) → (T a → ⊥) → T (not a)
not_in true h = h tt
not_in false h = tt

all_out : (f : ℕ → Bool) (n : ℕ) → T (all f n) → (i : ℕ) → i < n → T (f i)
all_out f zero t i h = absurd (omega arith)
all_out f (suc n) t i h = go (ℕ_discrete i n) (all_out f n u.0 i)
  where
    u : T (all f n) × T (f n)
    u = and_out (all f n) (f n) t

    go : Dec (i ≡ n) → (i < n → T (f i)) → T (f i)
    go (yes e) r = rw e u.1
    go (no e) r = r (omega arith)

all_in : (f : ℕ → Bool) (n : ℕ) → ((i : ℕ) → i < n → T (f i)) → T (all f n)
all_in f zero h = tt
all_in f (suc n) h = and_in (all f n) (f n) (all_in f n (λ i k. h i (omega arith))) (h n (omega arith))

pub some_out : (f : ℕ → Bool) (n : ℕ) → T (some f n) → (i : ℕ) × (i < n) × T (f i)
some_out f zero t = absurd t
some_out f (suc n) t = go (or_out (some f n) (f n) t) (some_out f n)
  where
    go : T (some f n) ⊎ T (f n) → (T (some f n) → (i : ℕ) × (i < n) × T (f i)) → (i : ℕ) × (i < suc n) × T (f i)
    go (inl a) r = let q = r a in (q.0, omega (arith, q.1), q.2)
    go (inr a) r = (n, omega arith, a)

pub some_in : (f : ℕ → Bool) (n i : ℕ) → i < n → T (f i) → T (some f n)
some_in f zero i h t = absurd (omega arith)
some_in f (suc n) i h t = go (ℕ_discrete i n) (some_in f n i)
  where
    go : Dec (i ≡ n) → (i < n → T (f i) → T (some f n)) → T (some f n || f n)
    go (yes e) r = right_or (some f n) (f n) (subst (λ (j : ℕ). T (f j)) e t)
    go (no e) r = left_or (some f n) (f n) (r (omega arith) t)

left_iff : (w : Written) (s : List ℕ) (i : ℕ) → i ≤ length s → T (left w s i) ↔ Left w s i
left_iff everywhere s i h = (λ t. tt, λ t. tt)
left_iff (where_it_runs c) s i h =
    let e = places_iff s c (λ j. leb j (length s)) (λ j t. leb→le j (length s) t) i in
    ((λ t. let r = e.0 t in (r.0, r.2, r.4)), λ r. e.1 (r.0, le→leb r.0 (length s) (omega (arith, r.1)), r.1, h, r.2))
left_iff wrong s i h = (λ t. t, λ t. t)

right_iff : (w : Written) (s : List ℕ) (i : ℕ) → suc i ≤ length s → T (right w s i) ↔ Right w s i
right_iff everywhere s i h = (λ t. tt, λ t. tt)
right_iff (where_it_runs c) s i h = (out, into)
  where
    out : T (right (where_it_runs c) s i) → Right (where_it_runs c) s i
    out t =
        let r = some_out (ends s c (λ j. eqb j (suc i))) (suc (length s)) t in
        let q = (ends_iff s c (suc i) r.0 h).0 r.2 in
        (r.0, q.0, q.1, q.2)

    into : Right (where_it_runs c) s i → T (right (where_it_runs c) s i)
    into r = some_in (ends s c (λ j. eqb j (suc i))) (suc (length s)) r.0 (omega (arith, r.2)) ((ends_iff s c (suc i) r.0 h).1 (r.1, r.2, r.3))
right_iff wrong s i h = (λ t. t, λ t. t)

there_iff : (r : Rule) (s : List ℕ) (i : ℕ) → suc i ≤ length s → T (there r s i) ↔ There r s i
there_iff r s i h =
    let a = left_iff r.left s i (omega arith) in
    let b = right_iff r.right s i h in
    ((λ t. let u = and_out (left r.left s i) (right r.right s i) t in (a.0 u.0, b.0 u.1)), λ u. and_in (left r.left s i) (right r.right s i) (a.1 u.0) (b.1 u.1))

module _ (lexical : ℕ → ℕ) (own p : ℕ) (b : Bool) (B : Type 0) (e : T b ↔ B) where
  only_out : T (not (eqb p own) || b) → p ≡ own → B
  only_out t q = e.0 (implies_out (eqb p own) b t (eq→eqb p own q))

  only_in : (p ≡ own → B) → T (not (eqb p own) || b)
  only_in h = implies_in (eqb p own) b (λ t. e.1 (h (eqb→eq p own t)))

  always_out : T (not b || (not (eqb (lexical p) (lexical own)) || eqb p own)) → B → lexical p ≡ lexical own → p ≡ own
  always_out t x q =
      eqb→eq p own (implies_out (eqb (lexical p) (lexical own)) (eqb p own) (implies_out b (not (eqb (lexical p) (lexical own)) || eqb p own) t (e.1 x)) (eq→eqb (lexical p) (lexical own) q))

  always_in : (B → lexical p ≡ lexical own → p ≡ own) → T (not b || (not (eqb (lexical p) (lexical own)) || eqb p own))
  always_in h = implies_in b (not (eqb (lexical p) (lexical own)) || eqb p own) λ t.
      implies_in (eqb (lexical p) (lexical own)) (eqb p own) λ u. eq→eqb p own (h (e.0 t) (eqb→eq (lexical p) (lexical own) u))

  kept_iff : (o : Operator) → T (kept lexical own p o b) ↔ Kept lexical own p o B
  kept_iff only-there = (only_out, only_in)
  kept_iff always-there = (always_out, always_in)
  kept_iff both = (
    (λ t. let u = and_out (not (eqb p own) || b) (not b || (not (eqb (lexical p) (lexical own)) || eqb p own)) t in (only_out u.0, always_out u.1)),
    λ h. and_in (not (eqb p own) || b) (not b || (not (eqb (lexical p) (lexical own)) || eqb p own)) (only_in h.0) (always_in h.1),
  )
  kept_iff never-there = (
    (λ t x q. not_out (eqb p own) (implies_out b (not (eqb p own)) t (e.1 x)) (eq→eqb p own q)),
    λ h. implies_in b (not (eqb p own)) λ t. not_in (eqb p own) λ u. h (e.0 t) (eqb→eq p own u),
  )

-- "It replies holds exactly when each rule's operator, in the meaning above, is kept at every place of the pairing."
pub obeys_iff : (lexical : ℕ → ℕ) (r : Rule) (ps : List ℕ)
    → T (obeys lexical r ps) ↔ KeptThroughout lexical ps r
unfolding obeys
obeys_iff lexical r ps = (out, into)
  where
    at : (i : ℕ) → i < length ps → T (kept lexical r.own (get_or ps i 0) r.operator (there r (bounded ps) (suc i))) ↔ Kept lexical r.own (get_or ps i 0) r.operator (There r (bounded ps) (suc i))
    at i h = kept_iff lexical r.own (get_or ps i 0) (there r (bounded ps) (suc i)) (There r (bounded ps) (suc i)) (there_iff r (bounded ps) (suc i) (omega (arith, h, length-append ps (255 ∷ [])))) r.operator

    out : T (obeys lexical r ps) → KeptThroughout lexical ps r
    out t i h = (at i h).0 (all_out (λ i. kept lexical r.own (get_or ps i 0) r.operator (there r (bounded ps) (suc i))) (length ps) t i h)

    into : KeptThroughout lexical ps r → T (obeys lexical r ps)
    into f = all_in (λ i. kept lexical r.own (get_or ps i 0) r.operator (there r (bounded ps) (suc i))) (length ps) (λ i h. (at i h).1 (f i h))

pub all_same : (f g : ℕ → Bool) (n : ℕ) → ((i : ℕ) → i < n → f i ≡ g i) → all f n ≡ all g n
all_same f g zero h = refl
all_same f g (suc n) h = ap₂ (λ (a b : Bool). a && b) (all_same f g n (λ i k. h i (omega arith))) (h n (omega arith))

-- the same over the pairing with its boundaries, as a loop goes through it
pub obeys_bounded : (lexical : ℕ → ℕ) (r : Rule) (ps : List ℕ)
    → obeys lexical r ps ≡ all (λ i. kept lexical r.own (get_or (bounded ps) (suc i) 0) r.operator (there r (bounded ps) (suc i))) (length (bounded ps) - 2)
unfolding obeys
obeys_bounded lexical r ps =
    let e : length (bounded ps) - 2 ≡ length ps = omega (arith, length-append ps (255 ∷ [])) in
    rw e (all_same (λ i. kept lexical r.own (get_or ps i 0) r.operator (there r (bounded ps) (suc i))) (λ i. kept lexical r.own (get_or (bounded ps) (suc i) 0) r.operator (there r (bounded ps) (suc i))) (length ps)
    (λ i h. ap (λ (p : ℕ). kept lexical r.own p r.operator (there r (bounded ps) (suc i))) (sym (get_or-append ps (255 ∷ []) 0 i h))))
