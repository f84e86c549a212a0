-- Which positions may lead to the word's end, for a grammar and a query.
use Rattle.std.specs.Prelude.{ℕ, ◌-◌, ◌<◌, Bool, true, false, ◌⊎◌, ◌≡◌, List, [], ◌∷◌, T}
use Rattle.model.specs.Grammar.{Grammar}
use Rattle.model.specs.Query.{Query}
use Rattle.model.specs.Tree.{Node}
use Rattle.positions.specs.Positions.{Feasible, Over, Inserted, Leads}

module _ (g : Grammar) (q : Query) where
  -- every pair of the grammar is in it, wherever the query allows its surface side: by the word's letter, or by an interval, or anywhere
  pub record Covers (f : Feasible) : Type 0 where
    pub paired : (p : ℕ) → p < g.pairs → (i : ℕ) → i < 32 → (g.surface p ≡ 0 → ⊥) → T (q.letters.allows i (g.surface p)) → T (f.pairs (g.lexical p) i)
    pub deleted : (p : ℕ) → p < g.pairs → g.surface p ≡ 0 → T (f.deletes (g.lexical p))

  -- by what is kept after each entry: the positions from which what may come after it may lead to the end
  module _ (f : Feasible) (after : ℕ → ℕ → Bool) where
    -- insertions up to where the word may end, once the path has; an entry that may open
    abbrev pub Ending : ℕ → ℕ → Type 0
    Ending t i = Inserted f t (λ k. T (q.letters.may_end k)) i

    abbrev pub Opening : (ℕ → Bool) → ℕ → Type 0
    Opening ways i = (e : ℕ) × ((e < g.entries) × (T (ways e) × Leads f (g.form e) (λ k. T (after e k)) i))

    -- by whether the path has ended, and may
    abbrev pub Onward : Bool → Bool → (ℕ → Bool) → ℕ → ℕ → Type 0
    Onward true stop ways t i = Ending t i
    Onward false stop ways t i = (T stop × Ending t i) ⊎ Opening ways i

    -- with t nulls to spare, and these letters left
    abbrev pub Hope : ℕ → List ℕ → Bool → Bool → (ℕ → Bool) → ℕ → Type 0
    Hope t [] ended stop ways i = Onward ended stop ways t i
    Hope t (a ∷ xs) ended stop ways i = Inserted f t (Over f a (Leads f xs (Onward ended stop ways 8))) i

    abbrev pub HopeAt : Node → Type 0
    HopeAt n = Hope (8 - n.nulls) n.rest n.ended n.stop n.ways n.surface.letters

    -- what is kept leaves no position out
    abbrev pub Sound : Type 0
    Sound = (e : ℕ) → e < g.entries → (i : ℕ) → Onward false (g.ends e) (g.follows e) 8 i → T (after e i)
