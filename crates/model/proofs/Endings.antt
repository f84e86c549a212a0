-- Where no entry both ends a path and goes on, the order of the step lists with endings is that of document 01's step lists. So it is for every image of form 1.
use Prim.Native.Nat.{ℕ, zero, suc, ◌+◌, ◌<◌}
use mathlib.Core.Bool.{Bool, true, false, ◌&&◌, not, cond}
use mathlib.Core.Path.{◌≡◌, refl, sym, ap, ◌∙◌, subst}
use mathlib.Core.Logic.{◌⊎◌, inl, inr, ⊎_elim}
use mathlib.Core.List.Memᴰ
use mathlib.Core.List.{List, [], ◌∷◌, ◌++◌, map, Memᴰ}
use lib.ListN.{length, length-append}
use lib.Dec.{T, ltb, eqb, eqb→eq}
use borrow.Author.Tests.{eqb-true}
use native.Mathlib.Omega.{arith}
use Rattle.model.specs.Lists.{below, every, any, joined, byte}
use Rattle.model.specs.Blocks.{header}
use Rattle.model.specs.Grammar.{Grammar, OneWay}
use Rattle.model.specs.GrammarOf.{grammar_of}
use Rattle.model.specs.Readings.{Reading, steps_by, without_nulls, spelled, after_letter, up_to, beyond, ending_list, step_list, ending_steps}
use Rattle.model.specs.Readings.{steps, Before, Ascending, is_reading, is_path, is_linked}
use Rattle.model.specs.Lexicon.{in_lexicon, entry, continuation, may_stop, goes_to, linked, path_length}
use Rattle.model.specs.Query.{Query}
use Rattle.model.specs.Tree.{readings}
use Rattle.model.specs.Calls.{steps_of}
use Rattle.model.proofs.Listing.{ListsBy, IsListing, listing}
use Rattle.model.proofs.Booleans.{and_in, and_out, not_both, out3, of_true, true_of, false_of, eq→eqb}
use Rattle.model.proofs.Readings.{parts_of}
use Rattle.model.proofs.Lists.{map_from, any_from, any_has, below_has}

letters_left_lem : (a k t : ℕ) (xs : List ℕ) → length (without_nulls (a ∷ xs)) ≡ suc k + t → length (without_nulls xs) ≡ after_letter a (suc k) + t
letters_left_lem zero k t xs e = e
letters_left_lem (suc a) k t xs e = omega arith

module _ (g : Grammar) where
  abbrev onward : ℕ → List ℕ → Bool
  onward e es = linked g.entries g.follows g.ends (g.follows e) (g.ends e) es

  abbrev letters : List ℕ → ℕ
  letters ps = length (spelled g.lexical ps)

  abbrev total : List ℕ → ℕ
  total es = length (joined (map g.form es))

  -- what is to be shown of two paths from one place, for all pairings that spell them
  abbrev KeepsOrder : List ℕ → List ℕ → Type 0
  KeepsOrder es fs = (ps qs : List ℕ) → letters ps ≡ total es → letters qs ≡ total fs → Before (ending_list g es ps) (ending_list g fs qs) → Before (step_list g es ps) (step_list g fs qs)

  keeps_split : (es fs : List ℕ) → KeepsOrder es fs → (k : ℕ) (ps qs : List ℕ) → letters ps ≡ k + total es → letters qs ≡ k + total fs
      → Before (up_to g k ps ++ ending_list g es (beyond g k ps)) (up_to g k qs ++ ending_list g fs (beyond g k qs))
      → Before (up_to g k ps ++ step_list g es (beyond g k ps)) (up_to g k qs ++ step_list g fs (beyond g k qs))
  unfolding up_to beyond
  keeps_split es fs r zero [] [] a b h = r [] [] (omega arith) (omega arith) h
  keeps_split es fs r zero [] (q ∷ qs) a b h = r [] (q ∷ qs) (omega arith) (omega arith) h
  keeps_split es fs r zero (p ∷ ps) [] a b h = r (p ∷ ps) [] (omega arith) (omega arith) h
  keeps_split es fs r zero (p ∷ ps) (q ∷ qs) a b h = r (p ∷ ps) (q ∷ qs) (omega arith) (omega arith) h
  keeps_split es fs r (suc k) [] qs a b h = absurd (omega arith)
  keeps_split es fs r (suc k) (p ∷ ps) [] a b h = absurd (omega arith)
  keeps_split es fs r (suc k) (p ∷ ps) (q ∷ qs) a b (inl h) = inl h
  keeps_split es fs r (suc k) (p ∷ ps) (q ∷ qs) a b (inr h) =
      let e : p ≡ q = h.0 in
      let m = after_letter (g.lexical q) (suc k) in
      inr (
        e,
        subst (λ (x : ℕ). Before (up_to g (after_letter (g.lexical x) (suc k)) ps ++ step_list g es (beyond g (after_letter (g.lexical x) (suc k)) ps)) (up_to g m qs ++ step_list g fs (beyond g m qs))) (sym e)
            (keeps_split es fs r m ps qs (letters_left_lem (g.lexical q) k (total es) (map g.lexical ps) (rw e at a)) (letters_left_lem (g.lexical q) k (total fs) (map g.lexical qs) b) (rw e at h.1)),
      )

  pub keeps : OneWay g → (may : ℕ → Bool) (stop : Bool) → ((f : ℕ) → T stop → T (may f) → ⊥) → (es fs : List ℕ) → T (linked g.entries g.follows g.ends may stop es) → T (linked g.entries g.follows g.ends may stop fs) → KeepsOrder es fs
  unfolding step_list ending_list linked
  keeps w may stop none [] [] s t ps qs a b (inl h) = absurd (omega arith)
  keeps w may stop none [] [] s t ps qs a b (inr h) = h.1
  keeps w may stop none [] (f ∷ fs) s t ps qs a b h = absurd (none f s (out3 (may f) (ltb f g.entries) (onward f fs) t).0)
  keeps w may stop none (e ∷ es) [] s t ps qs a b h = absurd (none e t (out3 (may e) (ltb e g.entries) (onward e es) s).0)
  keeps w may stop none (e ∷ es) (f ∷ fs) s t ps qs a b (inl h) = inl (omega arith)
  keeps w may stop none (e ∷ es) (f ∷ fs) s t ps qs a b (inr h) =
      let d : e ≡ f = (let c = h.0 in omega arith) in
      let u = out3 (may f) (ltb f g.entries) (onward f fs) t in
      let v = out3 (may e) (ltb e g.entries) (onward e es) s in
      let n = length (g.form f) in
      inr (
        d,
        subst (λ (x : ℕ). Before (up_to g (length (g.form x)) ps ++ step_list g es (beyond g (length (g.form x)) ps)) (up_to g n qs ++ step_list g fs (beyond g n qs))) (sym d)
            (keeps_split es fs (keeps w (g.follows f) (g.ends f) (λ x s t. w f x s t) es fs (subst (λ (x : ℕ). T (onward x es)) d v.2) u.2) n ps qs
            (a ∙ length-append (g.form e) (joined (map g.form es)) ∙ ap (λ (x : ℕ). length (g.form x) + total es) d)
            (b ∙ length-append (g.form f) (joined (map g.form fs)))
            (rw d at h.1)),
      )

  parts : (r : Reading) → T (is_reading g r) → T (is_linked g r.path) × (letters r.pairing ≡ total r.path)
  unfolding is_path
  parts r t =
      let p = parts_of g r t in
      ((and_out (path_length r.path) (is_linked g r.path) p.path_right).1, ap length p.forms_spelled)

  plain_ascending : OneWay g → (l : List Reading) → ((r : Reading) → Memᴰ r l → T (is_reading g r)) → Ascending (map (ending_steps g) l) → Ascending (map (steps g) l)
  plain_ascending w [] f a = tt
  plain_ascending w (r ∷ l) f a = (
    λ m i.
        let u = map_from (steps g) l i in
        let p = parts r (f r (Memᴰ.head refl)) in
        let k = parts u.0 (f u.0 (Memᴰ.tail u.1)) in
        rw u.2 (keeps w g.begins false (λ x s t. s) r.path u.0.path p.0 k.0 r.pairing u.0.pairing p.1 k.1 (a.0 (ending_steps g u.0) (Memᴰ.map (ending_steps g) u.1))),
    plain_ascending w l (λ s i. f s (Memᴰ.tail i)) a.1,
  )

  -- the list of all readings is in the order of document 01's step lists,
  pub plain_order : OneWay g → (q : Query) → Ascending (map (steps g) (readings g q))
  plain_order w q = plain_ascending w (readings g q) (λ r m. ((listing g q).only r m).0) (listing g q).in_order

  -- and so is the one list that document 01 asks for
  pub plain_listing : OneWay g → (q : Query) → IsListing g q (readings g q)
  plain_listing w q = record { only = (listing g q).only; every_one = (listing g q).every_one; in_order = plain_order w q }

  -- "the last and only the last with 255": an entry that ends a path stands last
  ends_last : OneWay g → (may : ℕ → Bool) (stop : Bool) (es : List ℕ) (e f : ℕ) (fs : List ℕ) → T (linked g.entries g.follows g.ends may stop (es ++ (e ∷ f ∷ fs))) → T (g.ends e) → ⊥
  unfolding linked
  ends_last w may stop [] e f fs t s =
      let u = out3 (may e) (ltb e g.entries) (onward e (f ∷ fs)) t in
      w e f s (out3 (g.follows e f) (ltb f g.entries) (onward f fs) u.2).0
  ends_last w may stop (x ∷ es) e f fs t s =
      let u = out3 (may x) (ltb x g.entries) (onward x (es ++ (e ∷ f ∷ fs))) t in
      ends_last w (g.follows x) (g.ends x) es e f fs u.2 s

-- an entry may follow where it is in a lexicon that is named, whichever of them it is
pub image_follows : (image : List ℕ) (e f x : ℕ) → x < (header image).lexicons → T (goes_to (entry image e) (header image).form x) → T (in_lexicon image x f)
    → T ((grammar_of image).follows e f)
unfolding grammar_of
image_follows image e f x l named there =
    any_has (λ x. goes_to (entry image e) (header image).form x && in_lexicon image x f) (below (header image).lexicons) (below_has (header image).lexicons x l)
    (and_in (goes_to (entry image e) (header image).form x) (in_lexicon image x f) named there)

-- an entry of an image of form 1 has one way on
no_way : (r : List ℕ) (form x : ℕ) → form ≡ 1 → T (may_stop r form) → T (goes_to r form x) → ⊥
unfolding goes_to
no_way r form x e s t = let u = and_out (eqb (byte r 13) x) (not (may_stop r 1)) (rw e at t) in not_both (may_stop r 1) (rw e at s) u.1

pub image_one_way : (image : List ℕ) → (header image).form ≡ 1 → OneWay (grammar_of image)
unfolding grammar_of
image_one_way image one e f s t =
    let u = any_from (λ x. goes_to (entry image e) (header image).form x && in_lexicon image x f) (below (header image).lexicons) t in
    let v = and_out (goes_to (entry image e) (header image).form u.0) (in_lexicon image u.0 f) u.2 in
    no_way (entry image e) (header image).form u.0 one s v.0

pub image_ends_last : (image es : List ℕ) (e f : ℕ) (fs : List ℕ) → (header image).form ≡ 1 → T (is_linked (grammar_of image) (es ++ (e ∷ f ∷ fs))) → T ((grammar_of image).ends e) → ⊥
image_ends_last image es e f fs one = ends_last (grammar_of image) (image_one_way image one) (grammar_of image).begins false es e f fs

-- "each next from its predecessor's continuation, the last and only the last with 255": what may follow and end in an image of form 1, in document 01's words
pub image_one_ends : (image : List ℕ) (e : ℕ) → (header image).form ≡ 1 → (grammar_of image).ends e ≡ eqb (continuation (entry image e)) 255
unfolding grammar_of may_stop
image_one_ends image e one = ap (λ (n : ℕ). eqb (byte (entry image e) 13) (cond (eqb n 2) 1 255)) one

pub image_one_follows : (image : List ℕ) (e f : ℕ) → (header image).form ≡ 1 → (continuation (entry image e) < (header image).lexicons) ⊎ (continuation (entry image e) ≡ 255)
    → (grammar_of image).follows e f ≡ (not (eqb (continuation (entry image e)) 255) && in_lexicon image (continuation (entry image e)) f)
unfolding grammar_of goes_to may_stop
image_one_follows image e f one right = go (not (eqb c 255) && in_lexicon image c f) refl
  where
    c : ℕ
    c = continuation (entry image e)

    named : ℕ → Bool
    named x = (eqb c x && not (eqb c 255)) && in_lexicon image x f

    all_named : any (λ x. goes_to (entry image e) (header image).form x && in_lexicon image x f) (below (header image).lexicons) ≡ any named (below (header image).lexicons)
    all_named = ap (λ (n : ℕ). any (λ x. goes_to (entry image e) n x && in_lexicon image x f) (below (header image).lexicons)) one

    go : (b : Bool) → (not (eqb c 255) && in_lexicon image c f) ≡ b → any (λ x. goes_to (entry image e) (header image).form x && in_lexicon image x f) (below (header image).lexicons) ≡ b
    go true t =
        let u = and_out (not (eqb c 255)) (in_lexicon image c f) (of_true _ t) in
        let few : c < (header image).lexicons = ⊎_elim (λ l. l) (λ z. absurd (not_both (eqb c 255) (eq→eqb c 255 z) u.0)) right in
        let own : T (eqb c c && not (eqb c 255)) = and_in (eqb c c) (not (eqb c 255)) (eq→eqb c c refl) u.0 in
        all_named ∙ true_of _ (any_has named (below (header image).lexicons) (below_has (header image).lexicons c few) (and_in (eqb c c && not (eqb c 255)) (in_lexicon image c f) own u.1))
    go false t =
        all_named
        ∙ false_of _
        (λ w.
        let u = any_from named (below (header image).lexicons) w in
        let v = and_out (eqb c u.0 && not (eqb c 255)) (in_lexicon image u.0 f) u.2 in
        let p = and_out (eqb c u.0) (not (eqb c 255)) v.0 in
        let there : T (in_lexicon image c f) = subst (λ (x : ℕ). T (in_lexicon image x f)) (sym (eqb→eq c u.0 p.0)) v.1 in
        subst T t (and_in (not (eqb c 255)) (in_lexicon image c f) p.1 there))

-- "the list of all readings follows the image's form"
pub image_listing : (image : List ℕ) (q : Query) → ListsBy (steps_of image) (grammar_of image) q (readings (grammar_of image) q)
unfolding steps_of steps_by
image_listing image q = go (eqb (header image).form 1) refl
  where
    go : (b : Bool) → eqb (header image).form 1 ≡ b → ListsBy (steps_by b (grammar_of image)) (grammar_of image) q (readings (grammar_of image) q)
    go true e = plain_listing (grammar_of image) (image_one_way image (eqb-true (header image).form 1 e)) q
    go false e = listing (grammar_of image) q
