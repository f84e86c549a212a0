-- Once the path has ended where what is asked of it lets it end nowhere, nothing is found. So the search need not end it there.
use Prim.Native.Nat.{ℕ, zero, suc}
use mathlib.Core.Bool.{Bool, true, false, not, true≢false}
use mathlib.Core.Path.{◌≡◌, refl, ap, ap₂, subst}
use mathlib.Core.List.{List, [], ◌∷◌, ◌++◌}
use lib.Dec.{T}
use Rattle.model.specs.Lists.{below, given, flat_map}
use Rattle.model.specs.Grammar.{Grammar}
use Rattle.model.specs.Readings.{Reading}
use Rattle.model.specs.Query.{Query}
use Rattle.model.specs.Tree.{Node, is_nil, opens, count_at, may_at, go_at, complete}
use Rattle.model.proofs.Booleans.{out5, false_of, right_false}
use Rattle.listing.specs.Gather.{grow, gather}

none_of : {A B : Type 0} (h : A → List B) (xs : List A) → ((x : A) → h x ≡ []) → flat_map h xs ≡ []
none_of h [] e = refl
none_of {A} {B} h (x ∷ xs) e = ap₂ (λ (k l : List B). k ++ l) (e x) (none_of h xs e)

pub none_given : {A : Type 0} (b : Bool) {l : List A} → l ≡ [] → given b l ≡ []
none_given true e = e
none_given false e = refl

module _ (g : Grammar) (q : Query) where
  not_complete : (n : Node) → q.entries.may_end n.entries ≡ false → complete g q n ≡ false
  unfolding complete
  not_complete n e = false_of _ (λ t. subst T e (out5 (is_nil n.rest) n.ended (q.entries.may_end n.entries) _ _ t).2)

  ended_opens : (n : Node) → n.ended ≡ true → opens n ≡ false
  ended_opens n d = right_false (is_nil n.rest) (not n.ended) (ap not d)

  pub unasked : (k : ℕ) (n : Node) (r : Reading) → n.ended ≡ true → q.entries.may_end n.entries ≡ false → gather g q k n r ≡ []
  unfolding gather go_at
  unasked zero n r d e = rw (not_complete n e) refl
  unasked (suc k) n r d e =
      ap₂ (λ (x y : List Reading). x ++ y) (ap (λ (b : Bool). given b (r ∷ [])) (not_complete n e))
      (none_of (λ x. given (may_at g q (opens n) n x) (gather g q k (go_at g q (opens n) n x) (grow (opens n) r x))) (below (count_at g q (opens n) n))
      (λ x. none_given (may_at g q (opens n) n x) (later (opens n) (ended_opens n d) x (λ n r. unasked k n r))))
    where
      later : (b : Bool) → b ≡ false → (x : ℕ) → ((n : Node) (r : Reading) → n.ended ≡ true → q.entries.may_end n.entries ≡ false → gather g q k n r ≡ [])
          → gather g q k (go_at g q b n x) (grow b r x) ≡ []
      later false z x f = f (go_at g q false n x) (grow false r x) d e
      later true z x f = absurd (true≢false z)
