-- Rules side by side: what the front, one more pair and the end do to their states. Each law is shown for one rule and lifted to all of them.
use Prim.Native.Nat.{ℕ, ◌<◌}
use mathlib.Core.Bool.{Bool, ◌&&◌, not}
use mathlib.Core.Path.{◌≡◌, sym, ap, ◌∙◌, subst}
use mathlib.Core.List.{List, [], ◌∷◌, ◌++◌, map}
use lib.ListN.{get_or}
use lib.Dec.{T}
use Rattle.model.specs.Lists.{below, every, is_zero}
use Rattle.model.specs.RuleTables.{accepts, fed}
use Rattle.model.specs.Tree.{step_all, alive, begun, finish}
use Rattle.model.proofs.Booleans.{and_out, and_in}
use Rattle.model.proofs.Lists.{below_from, every_in, every_map, every_both, get_d_map_below}

-- one rule
module _ (next : ℕ → ℕ → ℕ) (final : ℕ → Bool) where
  accepts_alive : (s : ℕ) (ps : List ℕ) → T (accepts next final s ps) → T (not (is_zero s))
  unfolding accepts
  accepts_alive s [] t = (and_out (not (is_zero s)) (final s) t).0
  accepts_alive s (p ∷ ps) t = (and_out (not (is_zero s)) (accepts next final (next s p) ps) t).0

  accepts_from : (s p : ℕ) (ps : List ℕ) → T (accepts next final s (p ∷ ps)) → T (accepts next final (next s p) ps)
  unfolding accepts
  accepts_from s p ps t = (and_out (not (is_zero s)) (accepts next final (next s p) ps) t).1

  accepts_to : (s p : ℕ) (ps : List ℕ) → T (not (is_zero s)) → T (accepts next final (next s p) ps) → T (accepts next final s (p ∷ ps))
  unfolding accepts
  accepts_to s p ps a t = and_in (not (is_zero s)) (accepts next final (next s p) ps) a t

-- what a rule is still fed after these pairs
abbrev pub to_end : ℕ → List ℕ → List ℕ
to_end boundary ps = ps ++ (boundary ∷ [])

module _ (rules : ℕ) (next : ℕ → ℕ → ℕ → ℕ) (final : ℕ → ℕ → Bool) (boundary : ℕ) where
  -- the rules, in these states, accept the rest of a pairing
  abbrev pub passes_from : List ℕ → List ℕ → Bool
  passes_from states ps = every (λ r. accepts (next r) (final r) (get_or states r 0) (to_end boundary ps)) (below rules)

  abbrev stepped : List ℕ → ℕ → List ℕ
  stepped states p = step_all rules next final states p

  stepped_at : (states : List ℕ) (p r : ℕ) → r < rules → get_or (stepped states p) r 0 ≡ next r (get_or states r 0) p
  unfolding step_all
  stepped_at states p r h = get_d_map_below (λ r. next r (get_or states r 0) p) rules r 0 h

  pub passes_alive : (states ps : List ℕ) → T (passes_from states ps) → T (alive rules next final states)
  unfolding alive
  passes_alive states ps t = every_map (λ r. accepts (next r) (final r) (get_or states r 0) (to_end boundary ps)) (λ r. not (is_zero (get_or states r 0))) (below rules) (λ r m. accepts_alive (next r) (final r) (get_or states r 0) (to_end boundary ps)) t

  pub passes_from_lem : (p : ℕ) (states ps : List ℕ) → T (passes_from states (p ∷ ps)) → T (passes_from (stepped states p) ps)
  passes_from_lem p states ps t =
      every_map (λ r. accepts (next r) (final r) (get_or states r 0) (to_end boundary (p ∷ ps))) (λ r. accepts (next r) (final r) (get_or (stepped states p) r 0) (to_end boundary ps)) (below rules)
      (λ r m u. rw (stepped_at states p r (below_from rules r m)) (accepts_from (next r) (final r) (get_or states r 0) p (to_end boundary ps) u)) t

  pub passes_to : (p : ℕ) (states ps : List ℕ) → T (alive rules next final states) → T (passes_from (stepped states p) ps) → T (passes_from states (p ∷ ps))
  unfolding alive
  passes_to p states ps a t =
      every_both (λ r. not (is_zero (get_or states r 0))) (λ r. accepts (next r) (final r) (get_or (stepped states p) r 0) (to_end boundary ps)) (λ r. accepts (next r) (final r) (get_or states r 0) (to_end boundary (p ∷ ps))) (below rules)
      (λ r m b u. accepts_to (next r) (final r) (get_or states r 0) p (to_end boundary ps) b (rw (stepped_at states p r (below_from rules r m)) at u)) a t

  -- every rule begins in state 1, and the boundary pair comes first
  abbrev ones : List ℕ
  ones = map (λ r. 1) (below rules)

  alive_ones : T (alive rules next final ones)
  unfolding alive
  alive_ones = every_in (λ r. not (is_zero (get_or ones r 0))) (below rules) (λ r m. rw (get_d_map_below {B = ℕ} (λ r. 1) rules r 0 (below_from rules r m)) tt)

  pub start_to : (ps : List ℕ) → T (every (λ r. accepts (next r) (final r) 1 (fed boundary ps)) (below rules)) → T (passes_from (begun rules next final boundary) ps)
  unfolding fed begun
  start_to ps t =
      passes_from_lem boundary ones ps
      (every_map (λ r. accepts (next r) (final r) 1 (to_end boundary (boundary ∷ ps))) (λ r. accepts (next r) (final r) (get_or ones r 0) (to_end boundary (boundary ∷ ps))) (below rules)
      (λ r m. subst (λ (s : ℕ). T (accepts (next r) (final r) s (to_end boundary (boundary ∷ ps)))) (sym (get_d_map_below (λ r. 1) rules r 0 (below_from rules r m)))) t)

  -- what passes keeps every rule alive over the front
  pub start_alive : (ps : List ℕ) → T (every (λ r. accepts (next r) (final r) 1 (fed boundary ps)) (below rules)) → T (alive rules next final (begun rules next final boundary))
  start_alive ps t = passes_alive (begun rules next final boundary) ps (start_to ps t)

  pub start_from : (ps : List ℕ) → T (passes_from (begun rules next final boundary) ps) → T (every (λ r. accepts (next r) (final r) 1 (fed boundary ps)) (below rules))
  unfolding fed begun
  start_from ps t =
      every_map (λ r. accepts (next r) (final r) (get_or ones r 0) (to_end boundary (boundary ∷ ps))) (λ r. accepts (next r) (final r) 1 (to_end boundary (boundary ∷ ps))) (below rules)
      (λ r m. subst (λ (s : ℕ). T (accepts (next r) (final r) s (to_end boundary (boundary ∷ ps)))) (get_d_map_below (λ r. 1) rules r 0 (below_from rules r m))) (passes_to boundary ones ps alive_ones t)

  -- the state that one rule comes to at the front
  pub begun_at : (r : ℕ) → r < rules → get_or (begun rules next final boundary) r 0 ≡ next r 1 boundary
  unfolding begun
  begun_at r h = stepped_at ones boundary r h ∙ ap (λ (s : ℕ). next r s boundary) (get_d_map_below {B = ℕ} (λ r. 1) rules r 0 h)

  pub finish_from : (states : List ℕ) → T (passes_from states []) → T (finish rules next final states boundary)
  unfolding finish accepts
  finish_from states t =
      every_map (λ r. accepts (next r) (final r) (get_or states r 0) (boundary ∷ [])) (λ r. let s = next r (get_or states r 0) boundary in not (is_zero s) && final r s) (below rules)
      (λ r m u. accepts_from (next r) (final r) (get_or states r 0) boundary [] u) t

  pub finish_to : (states : List ℕ) → T (alive rules next final states) → T (finish rules next final states boundary) → T (passes_from states [])
  unfolding alive finish accepts
  finish_to states a t =
      every_both (λ r. not (is_zero (get_or states r 0))) (λ r. let s = next r (get_or states r 0) boundary in not (is_zero s) && final r s) (λ r. accepts (next r) (final r) (get_or states r 0) (boundary ∷ [])) (below rules)
      (λ r m b u. accepts_to (next r) (final r) (get_or states r 0) boundary [] b u) a t
