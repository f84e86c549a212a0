-- The row of a trail: the numbers to write into it, and that the places past them stay blank.
use Prim.Native.Nat.{ℕ, ◌+◌, ◌-◌, ◌<◌}
use native.Mathlib.Omega.{arith}
use mathlib.Core.Path.{◌≡◌, sym, ap, ◌∙◌}
use lib.ListN.{length, get_or, take}
use lib.Seq.{length-take-le}
use Rattle.model.specs.Rows.{padded}
use Rattle.rows.specs.declared.Trail.{Trail}
use Rattle.rows.specs.Trail.{reading_of, Short, row_number, row_up_to}
use Rattle.rows.proofs.Places.{used, unused, entry_count_lem, entry_number, pair_count, pair_number_lem}
use Rattle.rows.proofs.Bytes.{up_to_rest}

module _ (t : Trail) (short : Short t) where
  module _ (long : length t.path ≡ 16) where
    pub entries_written : t.entries ≡ row_number (reading_of t) 0
    entries_written = sym (length-take-le t.entries t.path (omega (arith, short.entries_most))) ∙ entry_count_lem (reading_of t)

    pub entry_written : (i : ℕ) → i < t.entries → get_or t.path i 0 ≡ row_number (reading_of t) (1 + i)
    entry_written i h =
        let e : i ≡ (1 + i) - 1 = omega arith in
        used t.path 16 t.entries i (omega (arith, short.entries_most)) (omega (arith, short.entries_most)) h
        ∙ ap (λ (j : ℕ). get_or (padded 16 (take t.entries t.path)) j 0) e
        ∙ entry_number (reading_of t) (1 + i) (omega arith) (omega (arith, short.entries_most))

  pub entries_rest : row_up_to (reading_of t) (1 + t.entries) ≡ row_up_to (reading_of t) 17
  entries_rest =
      let e : (1 + t.entries) + (16 - t.entries) ≡ 17 = omega (arith, short.entries_most) in
      up_to_rest (reading_of t) (1 + t.entries) (16 - t.entries) (omega (arith, e))
      (λ k h m. unused t.path 16 t.entries (k - 1) (omega (arith, e)) (omega arith) ∙ entry_number (reading_of t) k (omega arith) (omega (arith, e)))
      ∙ ap (row_up_to (reading_of t)) e

  module _ (long : length t.pairing ≡ 40) where
    pub pairs_written : t.pairs ≡ row_number (reading_of t) 17
    pairs_written = sym (length-take-le t.pairs t.pairing (omega (arith, short.pairs_most))) ∙ pair_count (reading_of t)

    pub pair_written : (i : ℕ) → i < t.pairs → get_or t.pairing i 0 ≡ row_number (reading_of t) (18 + i)
    pair_written i h =
        let e : i ≡ (18 + i) - 18 = omega arith in
        used t.pairing 40 t.pairs i (omega (arith, short.pairs_most)) (omega (arith, short.pairs_most)) h
        ∙ ap (λ (j : ℕ). get_or (padded 40 (take t.pairs t.pairing)) j 0) e
        ∙ pair_number_lem (reading_of t) (18 + i) (omega arith)

  pub pairs_rest : row_up_to (reading_of t) (18 + t.pairs) ≡ row_up_to (reading_of t) 58
  pairs_rest =
      let e : (18 + t.pairs) + (40 - t.pairs) ≡ 58 = omega (arith, short.pairs_most) in
      up_to_rest (reading_of t) (18 + t.pairs) (40 - t.pairs) (omega (arith, e))
      (λ k h m. unused t.pairing 40 t.pairs (k - 18) (omega (arith, e)) (omega arith) ∙ pair_number_lem (reading_of t) k (omega arith))
      ∙ ap (row_up_to (reading_of t)) e
