-- To know that there is a sieve is to have one: each number that it promises is found by trying those that may be it.
use Prim.Native.Nat.{ℕ, zero, suc, ◌<◌, ◌≤◌}
use native.Mathlib.Decide.{ℕ_discrete, dec_le, dec_lt}
use native.Mathlib.Nat.{eq-or-lt_of_le}
use native.Mathlib.Omega.{arith}
use mathlib.Core.Logic.{◌⊎◌, inl, inr, ⊎_elim, ∥∥₁_elim, ∥∥₁_map}
use mathlib.Core.Path.{◌≡◌, subst}
use mathlib.Core.List.{List}
use lib.ListN.{length}
use Rattle.std.proofs.Props.{props}
use Rattle.model.specs.GrammarOf.{grammar_of}
use Rattle.model.specs.Query.{Query}
use Rattle.forms.specs.Forms.{FormsOf, rows_in}
use Rattle.forms.specs.Letters.{row_letter}
use Rattle.forms.specs.Slots.{Slotted, slot_entry, slot_onward}
use Rattle.filter.specs.Sieve.{Sieved, Sieve}

-- what is decided and known to be is had
module _ {A : Type 0} where
  had : Dec A → ∥ A ∥₁ → A
  had (yes a) t = a
  had (no n) t = absurd (∥∥₁_elim t (λ x y. absurd x) n)

module _ {A B : Type 0} where
  both : Dec A → Dec B → Dec (A × B)
  both (yes a) (yes b) = yes (a, b)
  both (no n) d = no (λ p. n p.0)
  both (yes a) (no n) = no (λ p. n p.1)

  either : Dec A → Dec B → Dec (A ⊎ B)
  either (yes a) d = yes (inl a)
  either (no n) (yes b) = yes (inr b)
  either (no n) (no m) = no (λ s. ⊎_elim n m s)

-- a number below n of which P holds
module _ {P : ℕ → Type 0} (dec : (k : ℕ) → Dec (P k)) where
  some_below : (n : ℕ) → Dec ((k : ℕ) × ((k < n) × P k))
  some_below zero = no (λ s. absurd (omega (arith, s.1.0)))
  some_below (suc n) = go (dec n) (some_below n)
    where
      go : Dec (P n) → Dec ((k : ℕ) × ((k < n) × P k)) → Dec ((k : ℕ) × ((k < suc n) × P k))
      go (yes p) d = yes (n, (omega arith, p))
      go (no q) (yes s) = yes (s.0, (omega (arith, s.1.0), s.1.1))
      go (no q) (no r) = no (λ s. ⊎_elim (λ e. q (subst P e s.1.1)) (λ l. r (s.0, (l, s.1.1))) (eq-or-lt_of_le (omega (arith, s.1.0))))

-- a way on as one number: a lexicon, 254 or 255
way_in : (way : ℕ) → Dec ((way < 64) ⊎ ((way ≡ 254) ⊎ (way ≡ 255)))
way_in way = either (dec_lt way 64) (either (ℕ_discrete way 254) (ℕ_discrete way 255))

-- each fact of a record of itself, where there is one proof of it at most, or by trying
module _ {image slots shared skips : List ℕ} {low high : ℕ} where
  slotted_had : ∥ Slotted image slots shared skips low high ∥₁ → Slotted image slots shared skips low high
  slotted_had t = record {
    slots_long = ∥∥₁_elim t (hlevel props) (λ s. s.slots_long);
    shared_long = ∥∥₁_elim t (hlevel props) (λ s. s.shared_long);
    skips_long = ∥∥₁_elim t (hlevel props) (λ s. s.skips_long);
    few = ∥∥₁_elim t (hlevel props) (λ s. s.few);
    form_short = ∥∥₁_elim t (hlevel props) (λ s. s.form_short);
    letters_in = ∥∥₁_elim t (hlevel props) (λ s. s.letters_in);
    onward_in = λ i h. had (way_in _) (∥∥₁_map t (λ s. s.onward_in i h));
    form_is = ∥∥₁_elim t (hlevel props) (λ s. s.form_is);
    onward_is = λ i l h. record {
      in_bound = had (way_in (slot_onward slots i)) (∥∥₁_map t (λ s. (s.onward_is i l h).in_bound));
      ends = ∥∥₁_elim t (hlevel props) (λ s. (s.onward_is i l h).ends);
      goes = ∥∥₁_elim t (hlevel props) (λ s. (s.onward_is i l h).goes);
    };
    entry_in = ∥∥₁_elim t (hlevel props) (λ s. s.entry_in);
    apart = ∥∥₁_elim t (hlevel props) (λ s. s.apart);
    all = λ e l h. slot_of e (had (some_below (λ i. both (dec_le low i) (ℕ_discrete (slot_entry slots i) e)) high) (∥∥₁_map t (λ s. slot_below e (s.all e l h))));
    first = ∥∥₁_elim t (hlevel props) (λ s. s.first);
    shares = ∥∥₁_elim t (hlevel props) (λ s. s.shares);
    skip_on = ∥∥₁_elim t (hlevel props) (λ s. s.skip_on);
    skip_over = ∥∥₁_elim t (hlevel props) (λ s. s.skip_over);
    skip_end = ∥∥₁_elim t (hlevel props) (λ s. s.skip_end);
  }
    where
      slot_below : (e : ℕ) → (i : ℕ) × ((low ≤ i) × ((i < high) × (slot_entry slots i ≡ e))) → (i : ℕ) × ((i < high) × ((low ≤ i) × (slot_entry slots i ≡ e)))
      slot_below e s = (s.0, (s.1.1.0, (s.1.0, s.1.1.1)))

      slot_of : (e : ℕ) → (i : ℕ) × ((i < high) × ((low ≤ i) × (slot_entry slots i ≡ e))) → (i : ℕ) × ((low ≤ i) × ((i < high) × (slot_entry slots i ≡ e)))
      slot_of e s = (s.0, (s.1.1.0, (s.1.0, s.1.1.1)))

module _ {image forms : List ℕ} where
  forms_had : ∥ FormsOf image forms ∥₁ → FormsOf image forms
  forms_had t = record {
    long = ∥∥₁_elim t (hlevel props) (λ f. f.long);
    rowed = ∥∥₁_elim t (hlevel props) (λ f. f.rowed);
    paired = λ p h s. had (some_below (λ k. ℕ_discrete (row_letter (rows_in forms) ((grammar_of image).surface p) k) ((grammar_of image).lexical p)) _) (∥∥₁_map t (λ f. f.paired p h s));
    deleted = ∥∥₁_elim t (hlevel props) (λ f. f.deleted);
    order_few = ∥∥₁_elim t (hlevel props) (λ f. f.order_few);
    ordered = ∥∥₁_elim t (hlevel props) (λ f. f.ordered);
    slotted = λ x h. slotted_had (∥∥₁_map t (λ f. f.slotted x h));
  }

  module _ {q : Query} {masks reach : List ℕ} where
    sieved_had : ∥ Sieved image q forms masks reach ∥₁ → Sieved image q forms masks reach
    sieved_had t = record {
      forms_of_lem = forms_had (∥∥₁_map t (λ s. s.forms_of_lem));
      filled = ∥∥₁_elim t (hlevel props) (λ s. s.filled);
      reached = ∥∥₁_elim t (hlevel props) (λ s. s.reached);
      covers = ∥∥₁_elim t (hlevel props) (λ s. s.covers);
      reaches = ∥∥₁_elim t (hlevel props) (λ s. s.reaches);
    }

    pub sieve_had : ∥ Sieve image q forms masks reach ∥₁ → Sieve image q forms masks reach
    sieve_had t = go (ℕ_discrete (length forms) 0)
      where
        go : Dec (length forms ≡ 0) → Sieve image q forms masks reach
        go (yes e) = inl e
        go (no n) = inr (sieved_had (∥∥₁_map t (λ s. ⊎_elim (λ e. absurd (n e)) (λ s. s) s)))
