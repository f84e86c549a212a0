-- The front of a word: a rule that fails on the boundary pair there leaves no reading, and rules that stay in state 1 there read as if they were fed the
-- boundary pair at the end alone.
use Prim.Native.Nat.{ℕ, ◌<◌}
use mathlib.Core.Bool.{false, not}
use mathlib.Core.Path.{◌≡◌, ap, ◌∙◌, subst}
use mathlib.Core.List.{List, [], ◌∷◌, ◌++◌}
use lib.ListN.{get_or}
use lib.Dec.{T}
use Rattle.model.specs.Lists.{below, every, is_zero}
use Rattle.model.specs.RuleTables.{accepts, fed}
use Rattle.model.specs.Grammar.{Grammar}
use Rattle.model.specs.GrammarOf.{grammar_of}
use Rattle.model.specs.Readings.{Reading, passes, is_reading}
use Rattle.model.specs.Query.{Query, Request, query_of, entry_numbers}
use Rattle.model.specs.Tree.{alive, begun, readings}
use Rattle.model.specs.Refusals.{Verdict, first_failing, judge_tests}
use Rattle.model.specs.Rows.{Reply, reply_to}
use Rattle.model.specs.Calls.{reply_after, request_verdict, all_readings, listing_reply}
use Rattle.model.specs.Beside.{Judgement, judgement_after, judged}
use Rattle.model.proofs.Booleans.{false_of}
use Rattle.model.proofs.Lists.{below_has, below_from, every_same, every_at}
use Rattle.model.proofs.Rules.{start_alive, begun_at}
use Rattle.model.proofs.Readings.{parts_of}
use Rattle.model.proofs.Listing.{listing, listing_unique}

module _ (g : Grammar) where
  -- the state that a rule comes to at the front
  abbrev pub at_front : ℕ → ℕ
  at_front r = g.next r 1 g.pairs

  -- all rules stay in state 1 there
  pub front_idle : ((r : ℕ) → r < g.rules → at_front r ≡ 1) → (ps : List ℕ) → passes g ps ≡ every (λ r. accepts (g.next r) (g.final r) 1 (ps ++ (g.pairs ∷ []))) (below g.rules)
  unfolding passes accepts fed
  front_idle idle ps =
      every_same (λ r. accepts (g.next r) (g.final r) 1 (fed g.pairs ps)) (λ r. accepts (g.next r) (g.final r) 1 (ps ++ (g.pairs ∷ []))) (below g.rules)
      (λ r m. ap (λ (s : ℕ). accepts (g.next r) (g.final r) s (ps ++ (g.pairs ∷ []))) (idle r (below_from g.rules r m)))

  -- rule r fails there
  module _ (r : ℕ) (rule : r < g.rules) (dead : at_front r ≡ 0) where
    abbrev states : List ℕ
    states = begun g.rules g.next g.final g.pairs

    dead_state : not (is_zero (get_or states r 0)) ≡ false
    dead_state = ap (λ (n : ℕ). not (is_zero n)) (begun_at g.rules g.next g.final g.pairs r rule ∙ dead)

    pub dead_passes : (ps : List ℕ) → passes g ps ≡ false
    unfolding passes alive
    dead_passes ps =
        false_of (every (λ r. accepts (g.next r) (g.final r) 1 (fed g.pairs ps)) (below g.rules))
        (λ t. subst T dead_state (every_at (λ r. not (is_zero (get_or states r 0))) (below g.rules) (below_has g.rules r rule) (start_alive g.rules g.next g.final g.pairs ps t)))

    pub dead_reading : (x : Reading) → is_reading g x ≡ false
    dead_reading x = false_of (is_reading g x) (λ t. subst T (dead_passes x.pairing) (parts_of g x t).passing)

    pub dead_readings : (q : Query) → readings g q ≡ []
    dead_readings q = listing_unique (readings g q) [] (listing g q) (record { only = λ x. elim [ ]; every_one = λ x t a. absurd (subst T (dead_reading x) t); in_order = tt })

-- in the calls' words: a listing that is not refused replies none, a judge that does not refuse replies fails
module _ (image : List ℕ) (r : ℕ) (rule : r < (grammar_of image).rules) (dead : at_front (grammar_of image) r ≡ 0) where
  pub dead_listing : (request : Request) (rows : ℕ) → request_verdict image request ≡ Verdict.accepted → listing_reply image request rows ≡ Reply.none
  unfolding listing_reply all_readings reply_to
  dead_listing request rows taken =
      ap (λ (v : Verdict). reply_after v rows (all_readings image request)) taken
      ∙ ap (reply_to rows) (dead_readings (grammar_of image) r rule dead (query_of request))

  pub dead_judged : (path pairing : List ℕ) → first_failing (judge_tests image path pairing) ≡ Verdict.accepted → judged image path pairing ≡ Judgement.fails
  unfolding judged
  dead_judged path pairing taken =
      let x : Reading = record { path = entry_numbers path; pairing = pairing } in
      ap (λ (v : Verdict). judgement_after v (is_reading (grammar_of image) x)) taken
      ∙ ap (judgement_after Verdict.accepted) (dead_reading (grammar_of image) r rule dead x)
