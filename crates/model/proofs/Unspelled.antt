-- An entry that can never be spelled: accepted images are fewer by just those that have one, every call but sealing refuses them with 14, and no reading's
-- path ever held such an entry, so that no row is lost with it.
use Prim.Native.Nat.{ℕ, zero, suc, ◌<◌}
use native.Mathlib.Omega.{arith}
use mathlib.Core.Bool.{Bool, true, false}
use mathlib.Core.Path.{◌≡◌, refl, sym, ap, ◌∙◌, subst}
use mathlib.Core.Logic.{◌↔◌}
use mathlib.Core.List.Memᴰ
use mathlib.Core.List.{List, [], ◌∷◌, ◌++◌, map, Memᴰ}
use lib.ListN.{get_or}
use lib.Dec.{T, ltb, eqb, eqb→eq, ltb→lt}
use Rattle.model.specs.Lists.{below, every, joined, within}
use Rattle.model.specs.Blocks.{header}
use Rattle.model.specs.RuleTables.{Pair, pair, pairs, boundary_pair}
use Rattle.model.specs.Lexicon.{entry, form_of}
use Rattle.model.specs.Grammar.{Grammar}
use Rattle.model.specs.GrammarOf.{grammar_of}
use Rattle.model.specs.Readings.{Reading, without_nulls, is_reading}
use Rattle.model.specs.Query.{Request, query_of}
use Rattle.model.specs.Refusals.{Verdict, accepted, refused, unless, first_failing, is_lexical, right_forms, format_tests, image_tests, image_verdict, path_tests, pairing_tests, own_tests, request_tests, judge_tests, view_tests, point_tests, spelling_tests}
use Rattle.model.specs.Calls.{all_readings}
use Rattle.model.specs.Unspelled.{Unspelled}
use Rattle.model.proofs.Booleans.{eq→eqb, false_of}
use Rattle.model.proofs.Lists.{below_has, below_from, member_at, every_at, every_miss, any_from, any_has, map_from, length_map_below, get_d_map_below}
use Rattle.model.proofs.Tests.{clash, tests_append, tests_refused, tests_accepted, tests_number}
use Rattle.model.proofs.Readings.{parts_of}
use Rattle.model.proofs.Listing.{listing}

module _ (image : List ℕ) where
  -- a letter by the numbers of the pairs
  lexical_from : (a : ℕ) → T (is_lexical image a) → (p : ℕ) × (p < (header image).pairs) × ((get_or (pairs image) p boundary_pair).lexical ≡ a)
  unfolding is_lexical pairs
  lexical_from a t =
      let u = any_from (λ p. eqb p.lexical a) (pairs image) t in
      let v = map_from (pair image) (below (header image).pairs) u.1 in
      let l = below_from (header image).pairs v.0 v.1 in
      (v.0, l, ap (λ (s : Pair). s.lexical) (get_d_map_below (pair image) (header image).pairs v.0 boundary_pair l ∙ sym v.2) ∙ eqb→eq u.0.lexical a u.2)

  lexical_has : (a p : ℕ) → p < (header image).pairs → (get_or (pairs image) p boundary_pair).lexical ≡ a → T (is_lexical image a)
  unfolding is_lexical pairs
  lexical_has a p l e =
      any_has (λ p. eqb p.lexical a) (pairs image) (member_at (pairs image) p boundary_pair (omega (arith, length_map_below (pair image) (header image).pairs)))
      (eq→eqb (get_or (pairs image) p boundary_pair).lexical a e)

  -- test 14 in words
  none_unspelled : T (right_forms image) → (e : ℕ) → Unspelled image e → ⊥
  unfolding right_forms
  none_unspelled t e u =
      let s = every_at (λ e. every (is_lexical image) (form_of (entry image e))) (below (header image).entries) (below_has (header image).entries e u.entry_there) t in
      let f = lexical_from u.letter (every_at (is_lexical image) (form_of (entry image e)) u.in_form s) in
      u.no_pair f.0 f.1 f.2

  form_unspelled : right_forms image ≡ false → (e : ℕ) × Unspelled image e
  unfolding right_forms
  form_unspelled f =
      let m = every_miss (λ e. every (is_lexical image) (form_of (entry image e))) (below (header image).entries) f in
      let n = every_miss (is_lexical image) (form_of (entry image m.0)) m.2 in
      (m.0, record { entry_there = below_from (header image).entries m.0 m.1; letter = n.0; in_form = n.1; no_pair = λ p l e. subst T n.2 (lexical_has n.0 p l e) })

  unspelled_false : (e : ℕ) → Unspelled image e → right_forms image ≡ false
  unspelled_false e u = false_of (right_forms image) (λ t. none_unspelled t e u)

  -- the verdict, where the others pass
  last_verdict : first_failing (format_tests image) ≡ accepted → image_verdict image ≡ unless (right_forms image) 14 accepted
  unfolding image_verdict image_tests
  last_verdict f = tests_accepted (format_tests image) ((14, right_forms image) ∷ []) f

  -- "Accepted grammars are fewer by just these."
  pub accepted_fewer : (image_verdict image ≡ accepted) ↔ ((first_failing (format_tests image) ≡ accepted) × ((e : ℕ) → Unspelled image e → ⊥))
  unfolding image_verdict image_tests
  accepted_fewer = (
    λ v. let f = ((tests_append (format_tests image) ((14, right_forms image) ∷ [])).0 v).0 in (f, λ e u. let b = unspelled_false e u in let w = last_verdict f ∙ ap (λ (b : Bool). unless b 14 accepted) b in clash (cc)),
    λ t. last_verdict t.0 ∙ ap (λ (b : Bool). unless b 14 accepted) (true_from t.1),
  )
    where
      true_from : ((e : ℕ) → Unspelled image e → ⊥) → right_forms image ≡ true
      true_from none = go (right_forms image) refl
        where
          go : (b : Bool) → right_forms image ≡ b → b ≡ true
          go true f = refl
          go false f = let u = form_unspelled f in absurd (none u.0 u.1)

  -- what was refused before is refused with the same number
  pub refused_before : (k : ℕ) → first_failing (format_tests image) ≡ refused k → image_verdict image ≡ refused k
  unfolding image_verdict image_tests
  refused_before k f = tests_refused (format_tests image) ((14, right_forms image) ∷ []) k f

  format_number : (k : ℕ) → first_failing (format_tests image) ≡ refused k → T (within 1 8 k)
  unfolding format_tests
  format_number k f = tests_number (within 1 8) (format_tests image) k tt f

  -- and 14 is told exactly where such an entry is all that is wrong
  pub refused_14 : (image_verdict image ≡ refused 14) ↔ ((first_failing (format_tests image) ≡ accepted) × ((e : ℕ) × Unspelled image e))
  refused_14 = (λ v. go (first_failing (format_tests image)) refl v, λ t. last_verdict t.0 ∙ ap (λ (b : Bool). unless b 14 accepted) (unspelled_false t.1.0 t.1.1))
    where
      go : (v : Verdict) → first_failing (format_tests image) ≡ v → image_verdict image ≡ refused 14 → (first_failing (format_tests image) ≡ accepted) × ((e : ℕ) × Unspelled image e)
      go Verdict.accepted f v = (f, form_unspelled (failed (right_forms image) (sym (last_verdict f) ∙ v)))
        where
          failed : (b : Bool) → unless b 14 accepted ≡ refused 14 → b ≡ false
          failed true w = clash (cc)
          failed false w = refl
      go (Verdict.refused k) f v = let e : k ≡ 14 = let w = refused_before k f in cc in absurd (subst (λ (n : ℕ). T (within 1 8 n)) e (format_number k f))

  -- "refused by every call but sealing", before any of its own tests
  pub refused_by_each : image_verdict image ≡ refused 14
      → ((request : Request) → first_failing (request_tests image request) ≡ refused 14)
      × ((path pairing : List ℕ) → first_failing (judge_tests image path pairing) ≡ refused 14)
      × ((e : ℕ) → first_failing (view_tests image e) ≡ refused 14)
      × ((points : List ℕ) (room : ℕ) → first_failing (spelling_tests image points room) ≡ refused 14)
  unfolding image_verdict request_tests judge_tests view_tests spelling_tests
  refused_by_each v = (
    λ request. tests_refused (image_tests image) (own_tests image request) 14 v,
    λ path pairing. tests_refused (image_tests image) (path_tests image path ++ pairing_tests image pairing) 14 v,
    λ e. tests_refused (image_tests image) ((12, ltb e (header image).entries) ∷ []) 14 v,
    λ points room. tests_refused (image_tests image) (point_tests image points room) 14 v,
  )

-- every letter of an entry on a reading's path is the lexical side of one of its pairs
without_from : (xs : List ℕ) {a : ℕ} → Memᴰ a (without_nulls xs) → Memᴰ a xs
without_from [] m = m
without_from (zero ∷ xs) m = Memᴰ.tail (without_from xs m)
without_from (suc x ∷ xs) (Memᴰ.head e) = Memᴰ.head e
without_from (suc x ∷ xs) (Memᴰ.tail m) = Memᴰ.tail (without_from xs m)

joined_has : (ls : List (List ℕ)) {l : List ℕ} {a : ℕ} → Memᴰ l ls → Memᴰ a l → Memᴰ a (joined ls)
joined_has [] {l = l} {a = a} x' k = elim x' [ ]
joined_has (m ∷ ls) {l} {a} (Memᴰ.head e) k = Memᴰ.append_left (joined ls) (subst (Memᴰ a) e k)
joined_has (m ∷ ls) {l} {a} (Memᴰ.tail h) k = Memᴰ.append_right m (joined_has ls h k)

pub letters_paired : (g : Grammar) (r : Reading) (e a : ℕ) → T (is_reading g r) → Memᴰ e r.path → Memᴰ a (g.form e) → (p : ℕ) × Memᴰ p r.pairing × (p < g.pairs) × (g.lexical p ≡ a)
letters_paired g r e a t in_path in_form =
    let ps = r.pairing in
    let u = parts_of g r t in
    let m = without_from (map g.lexical ps) (subst (Memᴰ a) (sym u.forms_spelled) (joined_has (map g.form r.path) (Memᴰ.map g.form in_path) in_form)) in
    let v = map_from g.lexical ps m in
    (v.0, v.1, ltb→lt v.0 g.pairs (every_at (λ p. ltb p g.pairs) ps v.1 u.pairs_listed), sym v.2)

-- "simply never found": no row is lost with the entry
module _ (image : List ℕ) (e : ℕ) (u : Unspelled image e) where
  pub never_read : (r : Reading) → T (is_reading (grammar_of image) r) → Memᴰ e r.path → ⊥
  unfolding grammar_of
  never_read r t m = let v = letters_paired (grammar_of image) r e u.letter t m u.in_form in u.no_pair v.0 v.2 v.3

  pub never_listed : (request : Request) (r : Reading) → Memᴰ r (all_readings image request) → Memᴰ e r.path → ⊥
  unfolding all_readings
  never_listed request r l m = never_read r ((listing (grammar_of image) (query_of request)).only r l).0 m
