-- Demand 2's converse: a reading is among a word's readings exactly when it is among those of its path and spells that word.
use Prim.Native.Nat.{ℕ, suc, ◌≤◌, ◌<◌}
use mathlib.Core.Path.{◌≡◌, sym, ap, ◌∙◌}
use mathlib.Core.Logic.{◌↔◌}
use mathlib.Core.List.{List, [], ◌∷◌, Memᴰ, head-eq_of_cons-eq, tail-eq_of_cons-eq}
use lib.ListN.{length, get_or, drop, length-drop}
use lib.Seq.{drop-cons, drop-length}
use lib.Dec.{T, ltb, eqb, ltb→lt, lt→ltb, eqb→eq}
use native.Mathlib.Omega.{arith}
use Rattle.model.specs.Grammar.{Grammar}
use Rattle.model.specs.Readings.{Reading, is_reading, is_reading_of, word, speech}
use Rattle.model.specs.Query.{fits, exactly, anything, answers, analysis, generation, query_of, entry_numbers}
use Rattle.model.specs.Tree.{readings}
use Rattle.model.proofs.Booleans.{and_out, and_in, out3, in3, eq→eqb, same_out, same_in}
use Rattle.model.proofs.Readings.{answers_out, answers_in}
use Rattle.model.proofs.Listing.{listing}

-- the two patterns
module _ (w : List ℕ) where
  exactly_from : (xs : List ℕ) (i : ℕ) → i ≤ length w → T (fits (exactly w) i xs) → xs ≡ drop i w
  exactly_from [] i h t = rw (eqb→eq i (length w) t) (sym (drop-length w))
  exactly_from (x ∷ xs) i h t =
      let u = out3 (ltb i (length w)) (eqb (get_or w i 0) x) (fits (exactly w) (suc i) xs) t in
      let k = ltb→lt i (length w) u.0 in
      let d = eqb→eq (get_or w i 0) x u.1 in
      let r = exactly_from xs (suc i) k u.2 in
      cc (drop-cons w i 0 k)

  exactly_to : (xs : List ℕ) (i : ℕ) → i ≤ length w → xs ≡ drop i w → T (fits (exactly w) i xs)
  exactly_to [] i h e = eq→eqb i (length w) (omega (arith, ap length e ∙ length-drop i w))
  exactly_to (x ∷ xs) i h e =
      let k : i < length w = omega (arith, ap length e ∙ length-drop i w) in
      let d = e ∙ drop-cons w i 0 k in
      in3 (ltb i (length w)) (eqb (get_or w i 0) x) (fits (exactly w) (suc i) xs) (lt→ltb i (length w) k) (eq→eqb (get_or w i 0) x (sym (head-eq_of_cons-eq d))) (exactly_to xs (suc i) k (tail-eq_of_cons-eq d))

  pub exactly_iff : (xs : List ℕ) → T (fits (exactly w) 0 xs) ↔ (xs ≡ w)
  exactly_iff xs = (exactly_from xs 0 (omega arith), exactly_to xs 0 (omega arith))

pub anything_fits : (i : ℕ) (xs : List ℕ) → T (fits anything i xs)
anything_fits i [] = tt
anything_fits i (x ∷ xs) = anything_fits (suc i) xs

module _ (g : Grammar) where
  pub reading_of_lem : (w : List ℕ) (r : Reading) → T (is_reading_of g w r) ↔ (T (is_reading g r) × (word g r ≡ w))
  unfolding is_reading_of
  reading_of_lem w r = (
    λ t. let u = and_out (is_reading g r) _ t in (u.0, same_out (word g r) w u.1),
    λ t. and_in (is_reading g r) _ t.0 (same_in (word g r) w t.1),
  )

  -- what analysis and generation ask of a reading
  analysis_answers : (w : List ℕ) (r : Reading) → T (answers g (query_of (analysis w)) r) ↔ (word g r ≡ w)
  unfolding query_of
  analysis_answers w r = let q = query_of (analysis w) in (
    λ t. (exactly_iff w (word g r)).0 (answers_out g r q t).1,
    λ e. answers_in g r q (anything_fits 0 r.path) ((exactly_iff w (word g r)).1 e) (anything_fits 0 (speech g r)),
  )

  generation_answers : (path : List ℕ) (r : Reading) → T (answers g (query_of (generation path)) r) ↔ (r.path ≡ entry_numbers path)
  unfolding query_of
  generation_answers path r = let q = query_of (generation path) in (
    λ t. (exactly_iff (entry_numbers path) r.path).0 (answers_out g r q t).0,
    λ e. answers_in g r q ((exactly_iff (entry_numbers path) r.path).1 e) (anything_fits 0 (word g r)) (anything_fits 0 (speech g r)),
  )

  -- analysis lists exactly the readings of the word
  pub analysis_iff : (w : List ℕ) (r : Reading) → Memᴰ r (readings g (query_of (analysis w))) ↔ T (is_reading_of g w r)
  analysis_iff w r = let all = listing g (query_of (analysis w)) in (
    λ h. let t = all.only r h in (reading_of_lem w r).1 (t.0, (analysis_answers w r).0 t.1),
    λ t. let u = (reading_of_lem w r).0 t in all.every_one r u.0 ((analysis_answers w r).1 u.1),
  )

  -- generation lists exactly the readings with the path
  pub generation_iff : (path : List ℕ) (r : Reading) → Memᴰ r (readings g (query_of (generation path))) ↔ (T (is_reading g r) × (r.path ≡ entry_numbers path))
  generation_iff path r = let all = listing g (query_of (generation path)) in (
    λ h. let t = all.only r h in (t.0, (generation_answers path r).0 t.1),
    λ t. all.every_one r t.0 ((generation_answers path r).1 t.1),
  )

  -- for the bytes of the reading's own path
  pub converse : (w path : List ℕ) (r : Reading) → entry_numbers path ≡ r.path
      → Memᴰ r (readings g (query_of (analysis w))) ↔ (Memᴰ r (readings g (query_of (generation path))) × (word g r ≡ w))
  converse w path r e = (
    λ h. let t = (reading_of_lem w r).0 ((analysis_iff w r).0 h) in ((generation_iff path r).1 (t.0, sym e), t.1),
    λ h. (analysis_iff w r).1 ((reading_of_lem w r).1 (((generation_iff path r).0 h.0).0, h.1)),
  )
