-- Whether an entry can start where it opens depends on its first letter alone, and one that cannot finds nothing.
use Prim.Native.Nat.{ℕ, zero, suc, pred, ◌+◌, ◌<◌, ◌≤◌}
use native.Mathlib.Omega.{arith}
use native.Mathlib.Decide.{dec_lt, ℕ_discrete}
use mathlib.Core.Bool.{Bool, true, false, ◌&&◌, ◌||◌, cond, true≢false}
use mathlib.Core.Path.{◌≡◌, refl, sym, ap, ap₂, ◌∙◌, subst}
use mathlib.Core.List.{List, [], ◌∷◌, ◌++◌}
use lib.ListN.{length, get_or, take, drop, set, replicate, length-set}
use lib.Seq.{take-nil, get_or-set_same, get_or-set_other}
use lib.Dec.{T, leb, eqb}
use borrow.Author.Tests.{eqb-true, ne_eqb}
use Rattle.std.specs.Prelude.{Option, Some, None, is_some}
use Rattle.model.specs.Lists.{given, any, every, within, flat_map, is_zero, byte}
use Rattle.model.specs.Blocks.{Header, record_start}
use Rattle.model.specs.Lexicon.{entry, form_of, form_length, right_ways, is_entry_of, is_entry}
use Rattle.model.specs.Refusals.{right_entries}
use Rattle.model.specs.Grammar.{Grammar}
use Rattle.model.specs.GrammarOf.{grammar_of}
use Rattle.model.specs.Readings.{Reading}
use Rattle.model.specs.Query.{Query}
use Rattle.model.specs.Tree.{Node, opens, is_nil, spells, may_at, go_at, complete}
use Rattle.model.proofs.Booleans.{out4, of_true}
use Rattle.model.proofs.Rest.{any_on, any_found, any_done}
use Rattle.image.specs.Accepted.{Accepted}
use Rattle.image.specs.Index.{candidates}
use Rattle.lexicon.proofs.Laws as entries
use Rattle.rows.specs.declared.Trail.{Trail}
use Rattle.rows.specs.Trail.{reading_of}
use Rattle.listing.specs.declared.place.Place.{Place}
use Rattle.listing.specs.Gather.{grow, gather, steps_from}
use Rattle.listing.specs.Places.{rest_of, node_of, TookIf}
use Rattle.listing.specs.Search.{node_at, head_of, entry_one}
use Rattle.listing.proofs.Gather.{branch, gather_last}
use Rattle.listing.proofs.Searching.{full_shut, gather_candidates}
use Rattle.ahead.specs.FirstLetters.{starts_at, seen_at}
use Rattle.ahead.proofs.Standing.{head_within}
use Rattle.ahead.proofs.Candidates.{Candidate}

-- the first letter of an entry's form, from the bytes of the entry: where the form is empty, the byte after its length is 0
head_byte : (l : List ℕ) → T (every is_zero (drop (1 + byte l 0) (take 13 l))) → byte l 1 ≡ head_of (take (byte l 0) (drop 1 l))
head_byte [] t = refl
head_byte (x ∷ []) t = sym (ap head_of (take-nil x))
head_byte (zero ∷ y ∷ l) t = eqb-true y 0 (go (is_zero y) _ t)
  where
    go : (a b : Bool) → T (a && b) → a ≡ true
    go true b t = refl
    go false b t = absurd t
head_byte (suc x ∷ y ∷ l) t = refl

module _ (image : List ℕ) (h : Header) (ok : Accepted image h) (e : ℕ) (inside : e < h.entries) where
  right : T (right_entries image)
  right = of_true (right_entries image) ok.entries_right

  pub first_inside : record_start h 6 e + 1 < length image
  first_inside = entries.entry_inside image h ok.laid e 1 inside (omega arith)

  pub first_is : byte image (record_start h 6 e + 1) ≡ head_of ((grammar_of image).form e)
  unfolding grammar_of form_of is_entry_of is_entry
  first_is =
      let l = entry image e in
      sym (entries.entry_byte image h ok.laid e 1 (omega arith))
      ∙ head_byte l (out4 (leb (form_length l) 12) (every (within 2 h.letters) (form_of l)) (every is_zero (drop (1 + form_length l) (take 13 l))) (right_ways l h.form h.lexicons)
      (entries.entry_right image h ok.laid right e inside)).2

  pub first_most : head_of ((grammar_of image).form e) ≤ h.letters
  unfolding grammar_of
  first_most = head_within h.letters (form_of (entry image e)) (entries.form_letters_lem image h ok.laid right e inside)

-- the loop over a letter's candidate pairs: what is left decides
abbrev pub Left : List ℕ → Query → Place → ℕ → ℕ → Type 0
Left image q place a k = (n m : ℕ) → m < 40 → starts_at image q (node_of image place n m) a ≡ any (may_at (grammar_of image) q false (node_of image place n m)) (drop k (candidates image a))

module _ (image : List ℕ) (q : Query) (place : Place) (a : ℕ) where
  pub left_none : Left image q place a 0
  unfolding starts_at
  left_none n m h = refl

  pub left_all : (k : ℕ) → length (candidates image a) ≤ k → Left image q place a k → (n m : ℕ) → m < 40 → false ≡ starts_at image q (node_of image place n m) a
  left_all k past l n m h = sym (l n m h ∙ any_done (candidates image a) k past (may_at (grammar_of image) q false (node_of image place n m)))

-- one more of them is tried
module _ {image : List ℕ} (q : Query) (place : Place) {a k p : ℕ} (c : Candidate image a k p) (left : Left image q place a k) where
  this_is : (n m : ℕ) → may_at (grammar_of image) q false (node_of image place n m) (get_or (candidates image a) k 0) ≡ may_at (grammar_of image) q false (node_of image place n m) p
  this_is n m = ap (may_at (grammar_of image) q false (node_of image place n m)) (sym c.this)

  pub left_more : (r : Option Place) → TookIf image q place p r → is_some r ≡ false → Left image q place a (k + 1)
  left_more None shut e = λ n m h. left n m h ∙ any_on (candidates image a) 0 k c.inside (may_at (grammar_of image) q false (node_of image place n m)) (this_is n m ∙ shut n m h)
  left_more (Some next) took e = absurd (true≢false e)

  pub left_found : (r : Option Place) → TookIf image q place p r → is_some r ≡ true → (n m : ℕ) → m < 40 → true ≡ starts_at image q (node_of image place n m) a
  left_found None shut e = absurd (true≢false (sym e))
  left_found (Some next) took e = λ n m h.
      sym (left n m h ∙ any_found (candidates image a) 0 k c.inside (may_at (grammar_of image) q false (node_of image place n m)) (this_is n m ∙ took.may n m h))

-- what is seen where an entry opens
module _ (image : List ℕ) (q : Query) (place : Place) (e a : ℕ) where
  abbrev Enters : Place → Type 0
  Enters next = (q : Query) (n m : ℕ) → node_of image next (suc n) m ≡ go_at (grammar_of image) q true (node_of image place n m) (suc e)

  pub entered_head : (next : Place) → Enters next → a ≡ head_of ((grammar_of image).form e) → a ≡ head_of (rest_of image next)
  unfolding node_of go_at
  entered_head next go first = first ∙ ap head_of (sym (ap (λ (n : Node). n.rest) (go q 0 0)))

  abbrev Seen : ℕ → Type 0
  Seen r = (n m : ℕ) → m < 40 → r ≡ seen_at image q (node_of image place n m) e a

  pub seen_empty : a ≡ 0 → Seen 2
  unfolding seen_at
  seen_empty z n m h = rw z refl

  module _ (letter : a ≡ 0 → ⊥) (next : Place) (go : Enters next) (b : Bool) (starts : (n m : ℕ) → m < 40 → b ≡ starts_at image q (node_of image next n m) a) where
    starts_is : (n m : ℕ) → m < 40 → starts_at image q (go_at (grammar_of image) q true (node_of image place n m) (suc e)) a ≡ b
    starts_is n m h = ap (λ (n : Node). starts_at image q n a) (sym (go q n m)) ∙ sym (starts (suc n) m h)

    pub seen_some : b ≡ true → Seen 2
    unfolding seen_at
    seen_some t n m h = rw (ne_eqb a 0 letter, starts_is n m h, t) refl

    pub seen_none : b ≡ false → Seen 1
    unfolding seen_at
    seen_none f n m h = rw (ne_eqb a 0 letter, starts_is n m h, f) refl

-- tests over a list
any_same : (f g : ℕ → Bool) (xs : List ℕ) → ((x : ℕ) → f x ≡ g x) → any f xs ≡ any g xs
any_same f g [] e = refl
any_same f g (x ∷ xs) e = ap₂ (λ (a b : Bool). a || b) (e x) (any_same f g xs e)

any_never : (f : ℕ → Bool) (xs : List ℕ) → ((x : ℕ) → f x ≡ false) → any f xs ≡ false
any_never f [] e = refl
any_never f (x ∷ xs) e = rw (e x) (any_never f xs e)

any_none : {B : Type 0} (f : ℕ → Bool) (l : ℕ → List B) (xs : List ℕ) → any f xs ≡ false → flat_map (λ x. given (f x) (l x)) xs ≡ []
any_none f l [] e = refl
any_none {B} f l (x ∷ xs) e = go (f x) e (any_none f l xs)
  where
    go : (b : Bool) → (b || any f xs) ≡ false → (any f xs ≡ false → flat_map (λ x. given (f x) (l x)) xs ≡ []) → given b (l x) ++ flat_map (λ x. given (f x) (l x)) xs ≡ []
    go true e r = absurd (true≢false e)
    go false e r = r e

-- a letter that comes next spells alike in whatever form it begins
spells_head : (l m : List ℕ) → head_of l ≡ head_of m → (head_of l ≡ 0 → ⊥) → (x : ℕ) → spells l x ≡ spells m x
spells_head l m e some zero = refl
spells_head [] m e some (suc x) = absurd (some refl)
spells_head (y ∷ l) [] e some (suc x) = absurd (some e)
spells_head (y ∷ l) (z ∷ m) e some (suc x) = ap (λ (w : ℕ). eqb w (suc x)) e

module _ (image : List ℕ) (q : Query) (n : Node) (a : ℕ) where
  abbrev g : Grammar
  g = grammar_of image

  -- with 40 pairs read nothing starts
  starts_full : 40 ≤ n.pairs → starts_at image q n a ≡ false
  unfolding starts_at
  starts_full h = any_never (may_at g q false n) (candidates image a) (full_shut g q n h)

  module _ (letter : a ≡ 0 → ⊥) where
    -- two entries that begin with one letter start alike
    may_alike : (e x : ℕ) → head_of (g.form e) ≡ a → head_of (g.form x) ≡ a → (p : ℕ) → may_at g q false (go_at g q true n (suc x)) p ≡ may_at g q false (go_at g q true n (suc e)) p
    unfolding may_at go_at
    may_alike e x f y p = rw (spells_head (g.form x) (g.form e) (y ∙ sym f) (λ z. letter (sym y ∙ z)) (g.lexical p)) refl

    starts_alike : (e x : ℕ) → head_of (g.form e) ≡ a → head_of (g.form x) ≡ a → starts_at image q (go_at g q true n (suc x)) a ≡ starts_at image q (go_at g q true n (suc e)) a
    unfolding starts_at
    starts_alike e x f y = any_same (may_at g q false (go_at g q true n (suc x))) (may_at g q false (go_at g q true n (suc e))) (candidates image a) (may_alike e x f y)

    -- where a letter is left and no candidate pair may be taken, nothing is found
    module _ (first : head_of n.rest ≡ a) (shut : starts_at image q n a ≡ false) where
      some_left : is_nil n.rest ≡ false
      some_left = go n.rest first
        where
          go : (l : List ℕ) → head_of l ≡ a → is_nil l ≡ false
          go [] e = absurd (letter (sym e))
          go (y ∷ l) e = refl

      not_open : opens n ≡ false
      not_open = rw some_left refl

      not_complete : complete g q n ≡ false
      unfolding complete
      not_complete = rw some_left refl

      no_pair : (k : ℕ) (r : Reading) → flat_map (branch g q k n r false) (candidates image (head_of n.rest)) ≡ []
      unfolding starts_at
      no_pair k r = rw first (any_none (may_at g q false n) _ (candidates image a) shut)

      pub nothing_found : (k : ℕ) (r : Reading) → gather g q k n r ≡ []
      nothing_found zero r = gather_last g q n r ∙ rw not_complete refl
      nothing_found (suc k) r = gather_candidates image q n k r not_open ∙ rw (not_complete, no_pair k r) refl

-- an entry that begins with letter a finds nothing
abbrev pub Barren : List ℕ → Query → Place → Trail → ℕ → Type 0
Barren image q place trail a = (e : ℕ) → head_of ((grammar_of image).form e) ≡ a → entry_one image q place trail e ≡ []

-- what is known of the letters: where that is 1, an entry that begins with the letter finds nothing
pub record Known (image : List ℕ) (q : Query) (place : Place) (trail : Trail) (known : List ℕ) : Type 0 where
  pub long : length known ≡ 128
  pub barren : (a : ℕ) → get_or known a 0 ≡ 1 → Barren image q place trail a

-- where 1 is seen, the form has a letter and cannot start
one_out : (a : ℕ) (b : Bool) → ◌≡◌ {A = ℕ} (cond (is_zero a || b) 2 1) 1 → (a ≡ 0 → ⊥) × (b ≡ false)
one_out a b e = (λ z. two (subst (λ (x : ℕ). ◌≡◌ {A = ℕ} (cond (is_zero x || b) 2 1) 1) z e), last (is_zero a) b e)
  where
    two : ◌≡◌ {A = ℕ} 2 1 → ⊥
    two e = omega arith

    last : (c b : Bool) → ◌≡◌ {A = ℕ} (cond (c || b) 2 1) 1 → b ≡ false
    last true b e = absurd (two e)
    last false true e = absurd (two e)
    last false false e = refl

given_none : {B : Type 0} (b : Bool) {l : List B} → l ≡ [] → given b l ≡ []
given_none true e = e
given_none false e = refl

none_known : (n a : ℕ) → ◌≡◌ {A = ℕ} (get_or (replicate n 0) a 0) 0
none_known zero a = refl
none_known (suc n) zero = refl
none_known (suc n) (suc a) = none_known n a

module _ (image : List ℕ) (q : Query) (place : Place) (trail : Trail) where
  -- the node where entry e opens
  abbrev opened : ℕ → Node
  opened e = go_at (grammar_of image) q true (node_at image place trail) (suc e)

  opened_head : (a e : ℕ) → head_of ((grammar_of image).form e) ≡ a → head_of (opened e).rest ≡ a
  unfolding go_at
  opened_head a e f = f

  opened_full : (a e : ℕ) → 40 ≤ trail.pairs → starts_at image q (opened e) a ≡ false
  unfolding node_of go_at
  opened_full a e h = starts_full image q (opened e) a h

  -- what is seen of a letter at one entry is known for all that begin with it
  seen_barren : (e a r : ℕ) → a ≡ head_of ((grammar_of image).form e) → ((n m : ℕ) → m < 40 → r ≡ seen_at image q (node_of image place n m) e a) → r ≡ 1
      → Barren image q place trail a
  unfolding seen_at
  seen_barren e a r first seen one x y =
      let n = node_at image place trail in
      given_none (may_at (grammar_of image) q true n (suc x))
      (nothing_found image q (opened x) a letter (opened_head a x y) (go (dec_lt trail.pairs 40)) (pred (steps_from n)) (grow true (reading_of trail) (suc x)))
    where
      letter : a ≡ 0 → ⊥
      letter = (one_out a (starts_at image q (go_at (grammar_of image) q true (node_of image place 0 0) (suc e)) a) (sym (seen 0 0 (omega arith)) ∙ one)).0

      go : Dec (trail.pairs < 40) → starts_at image q (opened x) a ≡ false
      go (yes h) =
          starts_alike image q (node_at image place trail) a letter e x (sym first) y
          ∙ (one_out a (starts_at image q (opened e) a) (sym (seen trail.entries trail.pairs h) ∙ one)).1
      go (no h) = opened_full a x (omega arith)

module _ {image : List ℕ} {q : Query} {place : Place} {trail : Trail} where
  pub known_none : Known image q place trail (replicate 128 0)
  known_none = record { long = refl; barren = λ a e. absurd (omega (arith, none_known 128 a, e)) }

  -- a letter more: r is seen of a, with which entry e begins
  pub known_more : {known : List ℕ} → Known image q place trail known → (e a r : ℕ) → a < 128 → a ≡ head_of ((grammar_of image).form e)
      → ((n m : ℕ) → m < 40 → r ≡ seen_at image q (node_of image place n m) e a)
      → Known image q place trail (set known a r)
  known_more {known} k e a r few first seen = record { long = length-set known a r ∙ k.long; barren = λ b s. go b (ℕ_discrete b a) s }
    where
      go : (b : ℕ) → Dec (b ≡ a) → get_or (set known a r) b 0 ≡ 1 → Barren image q place trail b
      go b (yes f) s = rw f (seen_barren image q place trail e a r first seen
          (sym (get_or-set_same known a r 0 (omega (arith, k.long))) ∙ ap (λ (x : ℕ). get_or (set known a r) x 0) (sym f) ∙ s))
      go b (no f) s = k.barren b (sym (get_or-set_other known a b r 0 f) ∙ s)
