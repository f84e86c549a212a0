-- A search that may give up, part by part: what a part that gave up has offered is a beginning of the whole.
use Prim.Native.Nat.{ℕ, zero, suc, ◌+◌, ◌<◌, ◌≤◌, min}
use native.Mathlib.Nat.{eq-or-lt_of_le}
use native.Mathlib.Omega.{arith}
use mathlib.Core.Logic.{⊎_elim}
use mathlib.Core.Path.{◌≡◌, refl, sym, ap, ap₂, ◌∙◌}
use mathlib.Core.List.{List, [], ◌∷◌, ◌++◌, append_assoc}
use lib.ListN.{length}
use Rattle.model.specs.Lists.{below, flat_map}
use Rattle.model.specs.Readings.{Reading}
use Rattle.model.specs.Rows.{row_count}
use Rattle.model.proofs.Lists.{flat_map_below}
use Rattle.rows.specs.Offering.{offer_all}
use Rattle.rows.specs.Fill.{put, Roomy}
use Rattle.rows.proofs.Offering.{offer_none, offer_append}
use Rattle.rows.proofs.Fill.{count_offered}
use Rattle.rows.proofs.Windows.{window_again}
use Rattle.walk.specs.Offered.{GaveUp, Offered}
use Rattle.walk.proofs.Turns.{Turns}

-- a buffer that keeps its length has the room that it had
pub roomy_kept : {new old : List ℕ} {capacity : ℕ} → length new ≡ length old → Roomy old capacity → Roomy new capacity
roomy_kept e r = record { rows_in = omega (arith, e, r.rows_in); fits = r.fits }

module _ {capacity places : ℕ} where
  -- with nothing offered yet
  pub gave_none : {d : List ℕ} {n : ℕ} (l : List Reading) → places < 40 → GaveUp capacity (d, n) l (d, capacity + 2) places
  gave_none l few = record { few = few; told = refl; first = []; rest = l; parts = refl; bytes = sym (ap (λ (s : List ℕ × ℕ). s.0) (offer_none (put capacity) _)) }

  module _ {s s' : List ℕ × ℕ} where
    pub gave_same : {l m : List Reading} → l ≡ m → GaveUp capacity s l s' places → GaveUp capacity s m s' places
    gave_same e g = rw e at g

    -- what comes after is left out
    pub gave_first : {l : List Reading} (m : List Reading) → GaveUp capacity s l s' places → GaveUp capacity s (l ++ m) s' places
    gave_first m g = record { few = g.few; told = g.told; first = g.first; rest = g.rest ++ m; parts = ap (λ (l : List Reading). l ++ m) g.parts ∙ append_assoc g.first g.rest m; bytes = g.bytes }

    -- what comes before was offered
    pub gave_next : {s₁ : List ℕ × ℕ} {l : List Reading} (m : List Reading) → s₁ ≡ offer_all (put capacity) s m → GaveUp capacity s₁ l s' places → GaveUp capacity s (m ++ l) s' places
    gave_next {s₁} m e g =
        record {
          few = g.few;
          told = g.told;
          first = m ++ g.first;
          rest = g.rest;
          parts = ap (λ (l : List Reading). m ++ l) g.parts ∙ sym (append_assoc m g.first g.rest);
          bytes = g.bytes ∙ ap (λ (s : List ℕ × ℕ). (offer_all (put capacity) s g.first).0) e ∙ ap (λ (s : List ℕ × ℕ). s.0) (sym (offer_append (put capacity) s m g.first));
        }

    -- at turn k of a loop
    pub gave_turn : {f : ℕ → List Reading} {s₁ : List ℕ × ℕ} {k : ℕ} (m : ℕ) → Turns (put capacity) f s s₁ k → k < m → GaveUp capacity s₁ (f k) s' places → GaveUp capacity s (flat_map f (below m)) s' places
    gave_turn {f} {s₁} {k} zero t h g = absurd (omega (arith, h))
    gave_turn {f} {s₁} {k} (suc m) t h g =
        gave_same (sym (flat_map_below f m))
        (⊎_elim (λ e. gave_next (flat_map f (below m)) (rw e at t.done) (rw e at g)) (λ l. gave_first (f m) (gave_turn m t l g)) (eq-or-lt_of_le (omega (arith, h))))

  -- by lists that are the same, and tables as long
  pub offered_same : {s s' : List ℕ × ℕ} {l m : List Reading} {other : ℕ} → l ≡ m → places ≡ other → Offered capacity s l s' places → Offered capacity s m s' other
  offered_same e p o = rw (e, p) at o

  -- where the count has room, or one is over, all is offered
  pub offered_all : {s : List ℕ × ℕ} {l : List Reading} {d : List ℕ} {n : ℕ} → n < capacity + 2 → Offered capacity s l (d, n) places → (d, n) ≡ offer_all (put capacity) s l
  offered_all h = ⊎_elim (λ e. e) (λ g. absurd (omega (arith, h, g.told)))

  -- where nothing was counted, there was nothing
  pub offered_none : {s : List ℕ × ℕ} {l : List Reading} {d : List ℕ} {n : ℕ} → s.1 ≤ capacity → n ≡ s.1 → Offered capacity s l (d, n) places → l ≡ []
  offered_none {s} {l} {d} {n} h e o =
      let all = offered_all (omega (arith, h, e)) o in
      let counted : n ≡ min (s.1 + length l) (suc capacity) = ap (λ (s : List ℕ × ℕ). s.1) all ∙ count_offered capacity s l (omega (arith, h)) in
      blank l (omega (arith, counted, e, h))
    where
      blank : (l : List Reading) → length l ≡ 0 → l ≡ []
      blank [] z = refl
      blank (r ∷ l) z = absurd (omega (arith, z))

-- Rows written again over a beginning of them leave what they leave at once.
pub offered_again : {buffer after last : List ℕ} {l : List Reading} {capacity told found places : ℕ} → row_count buffer ≤ capacity → capacity + 2 ≤ told
    → Offered capacity (buffer, 0) l (after, told) places
    → (last, found) ≡ offer_all (put capacity) (after, 0) l
    → (last, found) ≡ offer_all (put capacity) (buffer, 0) l
offered_again {buffer} {after} {last} {l} {capacity} {told} {found} {places} room h o e = ⊎_elim all gave o
  where
    all : (after, told) ≡ offer_all (put capacity) (buffer, 0) l → (last, found) ≡ offer_all (put capacity) (buffer, 0) l
    all f = absurd (omega (arith, h, ap (λ (s : List ℕ × ℕ). s.1) f ∙ count_offered capacity (buffer, 0) l (omega arith)))

    gave : GaveUp capacity (buffer, 0) l (after, told) places → (last, found) ≡ offer_all (put capacity) (buffer, 0) l
    gave g =
        e
        ∙ ap₂ (λ (d : List ℕ) (m : List Reading). offer_all (put capacity) (d, 0) m) g.bytes g.parts
        ∙ window_again buffer capacity room g.first g.rest
        ∙ ap (offer_all (put capacity) (buffer, 0)) (sym g.parts)
