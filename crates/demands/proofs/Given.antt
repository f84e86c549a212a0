-- The rows that a listing hands back are those of readings that answer the request; a reading's parts, in words.
use Prim.Native.Nat.{ℕ, suc, ◌<◌}
use native.Mathlib.Omega.{arith}
use mathlib.Core.Path.{◌≡◌, ◌∙◌, subst}
use mathlib.Core.Logic.{◌↔◌, ◌⊎◌, inl, inr}
use mathlib.Core.List.Memᴰ
use mathlib.Core.List.{List, [], ◌∷◌, map, Memᴰ}
use lib.Dec.{T, ltb}
use Rattle.model.specs.Lists.{below, every, joined, same_list}
use Rattle.model.specs.RuleTables.{fed, accepts}
use Rattle.model.specs.Grammar.{Grammar}
use Rattle.model.specs.GrammarOf.{grammar_of}
use Rattle.model.specs.Readings.{Reading, spelled, few_nulls, word_length, passes, is_path, word, is_reading, is_reading_of}
use Rattle.model.specs.Query.{Request, analysis, generation, query_of}
use Rattle.model.specs.Refusals.{request_tests}
use Rattle.model.specs.Tree.{readings}
use Rattle.model.specs.Rows.{Reply, row_bytes}
use Rattle.model.specs.Calls.{all_readings}
use Rattle.model.specs.Demand.{Demand3, ProperBeginning, rows_handed_back, as_rows}
use Rattle.model.proofs.Booleans.{and_out, and_in, same_out, same_in}
use Rattle.model.proofs.Lists.{below_has, every_at, map_from}
use Rattle.model.proofs.Readings.{Parts, parts_of}
use Rattle.model.proofs.Converse.{analysis_iff, generation_iff}
use Rattle.demands.specs.Words.{Asks}
use Rattle.demands.proofs.Refusing.{either_of}
use Rattle.demands.proofs.Calls.{Promised, listing_case}

module _ (g : Grammar) where
  pub among_iff : (request : Request) (r : Reading) → Memᴰ r (readings g (query_of request)) ↔ (T (is_reading g r) × Asks g request r)
  unfolding is_reading_of
  among_iff (analysis w) r = (
    λ m. let t = and_out (is_reading g r) (same_list (word g r) w) ((analysis_iff g w r).0 m) in (t.0, same_out (word g r) w t.1),
    λ t. (analysis_iff g w r).1 (and_in (is_reading g r) (same_list (word g r) w) t.0 (same_in (word g r) w t.1)),
  )
  among_iff (generation path) r = generation_iff g path r

  -- the parts of a reading
  module _ (r : Reading) (t : T (is_reading g r)) where
    parts : Parts g r
    parts = parts_of g r t

    pub reading_path : T (is_path g r.path)
    reading_path = parts.path_right

    pub reading_pairs : T (every (λ p. ltb p g.pairs) r.pairing)
    reading_pairs = parts.pairs_listed

    pub reading_forms : spelled g.lexical r.pairing ≡ joined (map g.form r.path)
    reading_forms = parts.forms_spelled

    pub reading_word : T (word_length (word g r))
    reading_word = (and_out (word_length (word g r)) (few_nulls g.surface r.pairing) parts.surface_right).0

    pub reading_tables : (rule : ℕ) → rule < g.rules → T (accepts (g.next rule) (g.final rule) 1 (fed g.pairs r.pairing))
    unfolding passes
    reading_tables rule h = every_at (λ x. accepts (g.next x) (g.final x) 1 (fed g.pairs r.pairing)) (below g.rules) (below_has g.rules rule h) parts.passing

-- what stands in a proper beginning stands in the whole
beginning_among : (xs ys : List (List ℕ)) → ProperBeginning xs ys → (x : List ℕ) → Memᴰ x xs → Memᴰ x ys
beginning_among [] ys b x m = absurd (Memᴰ.not-nil m)
beginning_among (z ∷ xs) [] b x m = absurd (let s = b.shorter in omega arith)
beginning_among (z ∷ xs) (y ∷ ys) b x m = go (Memᴰ.cases_cons m) (beginning_among xs ys (record { shorter = let s = b.shorter in omega arith; same = λ d i h. b.same d (suc i) (omega arith) }) x)
  where
    go : (x ≡ z) ⊎ Memᴰ x xs → (Memᴰ x xs → Memᴰ x ys) → Memᴰ x (y ∷ ys)
    go (inl e) r = Memᴰ.head (e ∙ b.same [] 0 (omega arith))
    go (inr k) r = Memᴰ.tail (r k)

-- every row handed back is one of the list
rows_among : (l : List Reading) (reply : Reply) (before after : List ℕ) → Demand3 l reply before after → (row : List ℕ) → Memᴰ row (rows_handed_back reply after) → Memᴰ row (as_rows l)
rows_among l (Reply.all n) before after d row m = subst (Memᴰ row) (d.equal_unless_more.1 (λ x. x)) m
rows_among l (Reply.more n) before after d row m = beginning_among (rows_handed_back (Reply.more n) after) (as_rows l) (d.more_begins tt) row m
rows_among l Reply.none before after d row m = subst (Memᴰ row) (d.equal_unless_more.1 (λ x. x)) m
rows_among l (Reply.refused k) before after d row m = subst (Memᴰ row) (d.equal_unless_more.1 (λ x. x)) m

pub refused_rows : (reply : Reply) (k : ℕ) (after row : List ℕ) → reply ≡ Reply.refused k → Memᴰ row (rows_handed_back reply after) → ⊥
refused_rows reply k after row e m = Memᴰ.not-nil (subst (λ (x : Reply). Memᴰ row (rows_handed_back x after)) e m)

module _ {image : List ℕ} {request : Request} {before after : List ℕ} {reply : Reply} (p : Promised image request before after reply) where
  row_listed : (row : List ℕ) → Memᴰ row (rows_handed_back reply after) → Memᴰ row (as_rows (all_readings image request))
  row_listed row m = go (either_of (λ k. reply ≡ Reply.refused k) (after ≡ before) (Demand3 (all_readings image request) reply before after) (request_tests image request) (listing_case p))
    where
      go : Demand3 (all_readings image request) reply before after ⊎ ((k : ℕ) × (reply ≡ Reply.refused k)) → Memᴰ row (as_rows (all_readings image request))
      go (inl d) = rows_among (all_readings image request) reply before after d row m
      go (inr f) = absurd (refused_rows reply f.0 after row f.1 m)

  pub row_given : (row : List ℕ) → Memᴰ row (rows_handed_back reply after) → (r : Reading) × (row ≡ row_bytes r) × T (is_reading (grammar_of image) r) × Asks (grammar_of image) request r
  unfolding all_readings
  row_given row m =
      let t = map_from row_bytes (all_readings image request) (row_listed row m) in
      let u = (among_iff (grammar_of image) request t.0).0 t.1 in
      (t.0, t.2, u.0, u.1)
