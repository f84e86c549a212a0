-- Of an accepted image: the word and the path of a reading are taken by both calls, and the rows of the two calls agree.
use Prim.Native.Nat.{ℕ, zero, suc, ◌+◌, ◌-◌, ◌*◌, ◌/◌, ◌%◌, ◌<◌, ◌≤◌}
use native.Mathlib.Omega.{arith}
use mathlib.Core.Path.{◌≡◌, refl, sym, ap, ◌∙◌, subst}
use mathlib.Core.Logic.{◌↔◌, inl, inr}
use mathlib.Core.List.Memᴰ
use mathlib.Core.List.{List, [], ◌∷◌, ◌++◌, map, append_assoc, Memᴰ}
use lib.ListN.{length, get_or, take, drop, replicate}
use lib.Seq.{ext_get_or, take_at, take-append-add}
use lib.Dec.{T, ltb, eqb, ltb→lt}
use Rattle.model.specs.Lists.{below, every, flat_map, within, number, number_bytes}
use Rattle.model.specs.Blocks.{header}
use Rattle.model.specs.Lexicon.{path_length}
use Rattle.model.specs.GrammarOf.{grammar_of}
use Rattle.model.specs.Readings.{Reading, without_nulls, spelled, word_length, is_linked, is_path, word, is_reading}
use Rattle.model.specs.Query.{Request, analysis, generation, entry_numbers}
use Rattle.model.specs.Refusals.{Verdict, accepted, first_failing, right_pairs, image_verdict, image_tests, word_tests, path_tests, own_tests, request_tests}
use Rattle.model.specs.Rows.{Reply, padded, row_numbers, row_bytes}
use Rattle.model.specs.Calls.{all_readings}
use Rattle.model.specs.Demand.{Demand3, IsMore, rows_handed_back}
use Rattle.model.proofs.Booleans.{and_out, and_in, true_of, of_true, eq→eqb, within_in}
use Rattle.model.proofs.Lists.{member_at, length_map_below, get_d_map_below, flat_map_append}
use Rattle.model.proofs.Parts.{length_parts}
use Rattle.model.proofs.Tests.{tests_append}
use Rattle.model.proofs.Converse.{converse}
use Rattle.letters.proofs.Laws.{IsSide, right_pair}
use Rattle.grammar.proofs.Verdicts.{accepted_image}
use Rattle.print.specs.Text.{row_reading}
use Rattle.print.proofs.Text.{TwoBytes, number_at, row_reading_lem}
use Rattle.print.proofs.Small.{Small, reading_small}
use Rattle.demands.specs.Words.{Asks, path_bytes}
use Rattle.demands.proofs.Refusing.{Case}
use Rattle.demands.proofs.Calls.{Promised, listing_case, listing_passed}
use Rattle.demands.proofs.Given.{among_iff, reading_path, reading_pairs, reading_word, refused_rows, row_given}

module _ (es : List ℕ) where
  length_path_bytes : length (path_bytes es) ≡ 2 * length es
  length_path_bytes = length_parts 2 number_bytes es (λ n m. refl)

  numbers_back : TwoBytes es → entry_numbers (path_bytes es) ≡ es
  unfolding entry_numbers
  numbers_back small =
      let at : ℕ → ℕ = λ i. number (path_bytes es) (2 * i) in
      let n : length (path_bytes es) / 2 ≡ length es = omega (arith, length_path_bytes) in
      ap (λ (k : ℕ). map at (below k)) n
      ∙ ext_get_or 0 (map at (below (length es))) es (length_map_below at (length es))
      (λ i h. let k : i < length es = omega (arith, length_map_below at (length es)) in get_d_map_below at (length es) i 0 k ∙ number_at es i (small (get_or es i 0) (member_at es i 0 k)))

-- letters that are no null
letters_right : (letters : ℕ) (side : ℕ → ℕ) (pairs : ℕ) → ((p : ℕ) → p < pairs → IsSide letters (side p)) → (ps : List ℕ) → T (every (λ p. ltb p pairs) ps) → T (every (within 2 letters) (spelled side ps))
letters_right letters side pairs sides [] t = tt
letters_right letters side pairs sides (p ∷ ps) t =
    let u = and_out (ltb p pairs) (every (λ p. ltb p pairs) ps) t in
    go (side p) (sides p (ltb→lt p pairs u.0)) (letters_right letters side pairs sides ps u.1)
  where
    go : (n : ℕ) → IsSide letters n → T (every (within 2 letters) (spelled side ps)) → T (every (within 2 letters) (without_nulls (n ∷ map side ps)))
    go zero s r = r
    go (suc n) (inl e) r = absurd (omega arith)
    go (suc n) (inr h) r = and_in (within 2 letters (suc n)) (every (within 2 letters) (spelled side ps)) (within_in 2 letters (suc n) h.0 h.1) r

module _ (image : List ℕ) (takes : image_verdict image ≡ accepted) where
  small : (r : Reading) → T (is_reading (grammar_of image) r) → Small r
  unfolding grammar_of
  small r t =
      let limits = (accepted_image image takes).laid.limits in
      reading_small (grammar_of image) (omega (arith, limits.entries_most)) (omega (arith, limits.pairs_most)) r t

  path_back : (r : Reading) → T (is_reading (grammar_of image) r) → entry_numbers (path_bytes r.path) ≡ r.path
  path_back r t = numbers_back r.path (small r t).entries_small

  -- tests 9 and 10 of a reading's word, 11 and 12 of its path
  pub word_taken : (r : Reading) → T (is_reading (grammar_of image) r) → first_failing (word_tests image (word (grammar_of image) r)) ≡ accepted
  unfolding word_tests grammar_of
  word_taken r t =
      let right = of_true (right_pairs image) (accepted_image image takes).pairs_right in
      let letters = letters_right (header image).letters (grammar_of image).surface (header image).pairs (λ p h. (right_pair image right p h).surface_is) r.pairing (reading_pairs (grammar_of image) r t) in
      rw (true_of (word_length (word (grammar_of image) r)) (reading_word (grammar_of image) r t), true_of (every (within 2 (header image).letters) (word (grammar_of image) r)) letters) refl

  pub path_taken : (r : Reading) → T (is_reading (grammar_of image) r) → first_failing (path_tests image (path_bytes r.path)) ≡ accepted
  unfolding path_tests is_path
  path_taken r t =
      let es = r.path in
      let u = and_out (path_length es) (is_linked (grammar_of image) es) (reading_path (grammar_of image) r t) in
      let even = eq→eqb (length (path_bytes es) % 2) 0 (omega (arith, length_path_bytes es)) in
      rw (path_back r t, true_of (eqb (length (path_bytes es) % 2) 0) even, true_of (path_length es) u.0, true_of (is_linked (grammar_of image) es) u.1) refl

  -- so neither call refuses them
  pub both_taken : (r : Reading) → T (is_reading (grammar_of image) r)
      → (first_failing (request_tests image (analysis (word (grammar_of image) r))) ≡ accepted) × (first_failing (request_tests image (generation (path_bytes r.path))) ≡ accepted)
  unfolding request_tests own_tests image_verdict
  both_taken r t = (
    (tests_append (image_tests image) (word_tests image (word (grammar_of image) r))).1 (takes, word_taken r t),
    (tests_append (image_tests image) (path_tests image (path_bytes r.path))).1 (takes, path_taken r t),
  )

-- a reading that a row has room for is the one that its row shows
module _ {image : List ℕ} {request : Request} {before after : List ℕ} {reply : Reply} (p : Promised image request before after reply) where
  -- a call that hands back a row has refused nothing
  row_accepted : (row : List ℕ) → Memᴰ row (rows_handed_back reply after) → first_failing (request_tests image request) ≡ accepted
  row_accepted row m = go (first_failing (request_tests image request)) refl (listing_case p)
    where
      go : (v : Verdict) → first_failing (request_tests image request) ≡ v → Case (λ k. reply ≡ Reply.refused k) (after ≡ before) (Demand3 (all_readings image request) reply before after) v → v ≡ accepted
      go Verdict.accepted e c = refl
      go (Verdict.refused k) e c = absurd (refused_rows reply k after row c.0 m)

  pub image_accepted : (row : List ℕ) → Memᴰ row (rows_handed_back reply after) → image_verdict image ≡ accepted
  unfolding request_tests image_verdict
  image_accepted row m = ((tests_append (image_tests image) (own_tests image request)).0 (row_accepted row m)).0

  module _ (r : Reading) where
    -- what the row of r shows, for a path and a pairing that a row has room for
    row_reads : Small r → Memᴰ (row_bytes r) (rows_handed_back reply after) → T (is_reading (grammar_of image) r) × Asks (grammar_of image) request r
    row_reads fits m =
        let t = row_given p (row_bytes r) m in
        let s = t.0 in
        let a = small image (image_accepted (row_bytes r) m) s t.2 in
        let e : s ≡ r = sym (row_reading_lem s a.entries_most a.pairs_most a.entries_small a.pairs_small) ∙ ap row_reading (sym t.1) ∙ row_reading_lem r fits.entries_most fits.pairs_most fits.entries_small fits.pairs_small in
        (subst (λ (x : Reading). T (is_reading (grammar_of image) x)) e t.2, subst (Asks (grammar_of image) request) e t.3)

    -- and where the call refuses nothing and nothing is cut off, each reading that answers is there
    row_there : first_failing (request_tests image request) ≡ accepted → (IsMore reply → ⊥) → T (is_reading (grammar_of image) r) → Asks (grammar_of image) request r → Memᴰ (row_bytes r) (rows_handed_back reply after)
    unfolding all_readings
    row_there passed whole t asks =
        subst (Memᴰ (row_bytes r)) (sym ((listing_passed p passed).0.equal_unless_more.1 whole)) (Memᴰ.map row_bytes ((among_iff (grammar_of image) request r).1 (t, asks)))

-- the rows of the two calls
module _ {image w : List ℕ} {r : Reading} (fits : Small r) {before after : List ℕ} {reply : Reply} (p : Promised image (analysis w) before after reply) (whole : IsMore reply → ⊥)
    {before' after' : List ℕ} {reply' : Reply} (p' : Promised image (generation (path_bytes r.path)) before' after' reply') (whole' : IsMore reply' → ⊥) where
  pub rows_converse : Memᴰ (row_bytes r) (rows_handed_back reply after) ↔ (Memᴰ (row_bytes r) (rows_handed_back reply' after') × (word (grammar_of image) r ≡ w))
  rows_converse = (
    λ m.
        let t = row_reads p r fits m in
        let a = image_accepted p (row_bytes r) m in
        (row_there p' r (both_taken image a r t.0).1 whole' t.0 (sym (path_back image a r t.0)), t.1),
    λ m.
        let t = row_reads p' r fits m.0 in
        let a = image_accepted p' (row_bytes r) m.0 in
        row_there p r (subst (λ (x : List ℕ). first_failing (request_tests image (analysis x)) ≡ accepted) m.1 (both_taken image a r t.0).0) whole t.0 m.1,
  )

-- the lists of all readings, for every path and pairing
pub readings_converse : (image w : List ℕ) (r : Reading) → image_verdict image ≡ accepted
    → Memᴰ r (all_readings image (analysis w)) ↔ (Memᴰ r (all_readings image (generation (path_bytes r.path))) × (word (grammar_of image) r ≡ w))
unfolding all_readings
readings_converse image w r a =
    let g = grammar_of image in
    let path = path_bytes r.path in (
      λ m. (converse g w path r (path_back image a r ((among_iff g (analysis w) r).0 m).0)).0 m,
      λ m. (converse g w path r (path_back image a r ((among_iff g (generation path) r).0 m.0).0)).1 m,
    )

-- a row has the bytes of its path from byte 2 on
pub path_in_row : (r : Reading) → length r.path ≤ 16 → take (2 * length r.path) (drop 2 (row_bytes r)) ≡ path_bytes r.path
unfolding row_bytes row_numbers
path_in_row r few =
    let es = r.path in
    let n : 16 ≡ length es + (16 - length es) = omega arith in
    let unused : List ℕ = take (16 - length es) (replicate 16 65535) in
    let rest : List ℕ = length r.pairing ∷ padded 40 r.pairing in
    let e : padded 16 es ≡ es ++ unused = ap (λ (k : ℕ). take k (es ++ replicate 16 65535)) n ∙ take-append-add es (replicate 16 65535) (16 - length es) in
    ap (λ (l : List ℕ). take (2 * length es) (flat_map number_bytes (l ++ rest))) e
    ∙ ap (λ (l : List ℕ). take (2 * length es) (flat_map number_bytes l)) (append_assoc es unused rest)
    ∙ ap (take (2 * length es)) (flat_map_append number_bytes es (unused ++ rest))
    ∙ take_at (path_bytes es) (flat_map number_bytes (unused ++ rest)) (2 * length es) (length_path_bytes es)
