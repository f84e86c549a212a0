-- Blocks without sets: the rows of the other kinds, the kind of each block and what is asked of it are what they were.
use Prim.Native.Nat.{ℕ, zero, suc, ◌+◌, ◌*◌, ◌-◌, min}
use native.Mathlib.Omega.{arith}
use mathlib.Core.Bool.{Bool, true, false, ◌&&◌, not, cond}
use mathlib.Core.Path.{◌≡◌, refl, sym, ap, ap₂, ◌∙◌}
use mathlib.Core.List.{List, [], ◌∷◌, map}
use lib.ListN.{take, drop}
use lib.Seq.{get_or-take}
use lib.Dec.{T, ltb, eqb, eqb→eq}
use borrow.Author.Tests.{le-ltb, eq-eqb}
use Rattle.model.specs.Lists.{every, sum, is_zero, byte, number}
use Rattle.model.specs.Blocks.{Header, Kind, kinds, row, filled, entry_width, fitting, row_of, blocks_before, kind_from, block_kind, record_count, block_total, kind_at, records_at, within_limits, laid_out}
use Rattle.model.proofs.Booleans.{and_out, not_out, left_true, right_true}
use Rattle.without_sets.specs.Plain.{plain_kinds, plain_kind_at, plain_limits, plain_laid_out}

-- a test that is made twice decides once
twice : {A : Type 0} (b : Bool) (x y z : A) → cond b x (cond b y z) ≡ cond b x z
twice true x y z = refl
twice false x y z = refl

-- the rows that follow the place of the sets
abbrev later_kinds : Header → List Kind
later_kinds h = row 4 h.rules 506 h.rules ∷ row 5 1 2 h.lexicons ∷ filled 6 (entry_width h.form) h.entries ∷ []

-- neither the header's kind nor the sets'
abbrev pub is_other : ℕ → Bool
is_other kind = not (eqb 1 kind) && not (eqb 7 kind)

other_kind : (a b c d e : Bool) → T (is_other (cond a 2 (cond b 3 (cond c 4 (cond d 5 (cond e 6 0))))))
other_kind true b c d e = tt
other_kind false true c d e = tt
other_kind false false true d e = tt
other_kind false false false true e = tt
other_kind false false false false true = tt
other_kind false false false false false = tt

-- a block after the header is of another kind
plain_other : (h : Header) (k : ℕ) → T (is_other (plain_kind_at h (suc k)))
plain_other h k =
    rw (le-ltb (suc k) 1 (omega arith))
    (other_kind (ltb (suc k) 2) (ltb (suc k) 3) (ltb (suc k) (3 + h.rules)) (ltb (suc k) (3 + h.rules + 1)) (ltb (suc k) (3 + h.rules + 1 + (filled 6 (entry_width h.form) h.entries).blocks)))

-- the unused bytes from n on, byte n first; past the end of the list none is there and none is missed
zero_from : (n : ℕ) (l : List ℕ) → every is_zero (drop n l) ≡ (is_zero (byte l n) && every is_zero (drop (suc n) l))
zero_from zero [] = refl
zero_from zero (x ∷ l) = refl
zero_from (suc n) [] = refl
zero_from (suc n) (x ∷ l) = zero_from n l

-- two bytes more of a block
zero_two : (b : List ℕ) → every is_zero (drop 16 (take 510 b)) ≡ (is_zero (byte b 16) && (is_zero (byte b 17) && every is_zero (drop 18 (take 510 b))))
zero_two b =
    zero_from 16 (take 510 b)
    ∙ ap₂ (λ (x y : Bool). x && y) (ap is_zero (get_or-take 510 b 16 0 (omega arith)))
    (zero_from 17 (take 510 b) ∙ ap (λ (n : ℕ). is_zero n && every is_zero (drop 18 (take 510 b))) (get_or-take 510 b 17 0 (omega arith)))

-- what is asked of a block, by its kind, the kind's row and its first block
abbrev laid_by : ℕ → List ℕ → ℕ → Kind → ℕ → Bool
laid_by k b kind r n =
    let records = min (fitting r.width) (r.in_all - fitting r.width * (k - n)) in
    eqb (block_kind b) kind && eqb (record_count b) records && every is_zero (drop (4 + r.width * records) (take 510 b))

module _ (h : Header) where
  -- the row of another kind is the same, sets or none
  pub other_row : (kind : ℕ) → T (is_other kind) → row_of kind (kinds h) ≡ row_of kind (plain_kinds h)
  unfolding kinds
  other_row kind t =
      let u = and_out (not (eqb 1 kind)) (not (eqb 7 kind)) t in
      rw (not_out (eqb 1 kind) u.0, not_out (eqb 7 kind) u.1) refl

  -- the bytes of block 0 from 16 on were unused, so the two where the sixth count now stands were 0
  pub first_none : (b : List ℕ) → T (plain_laid_out h 0 b) → number b 16 ≡ 0
  first_none b t =
      let u = and_out (eqb (block_kind b) 1 && eqb (record_count b) 1) (every is_zero (drop 16 (take 510 b))) t in
      let v = and_out (is_zero (byte b 16)) (is_zero (byte b 17) && every is_zero (drop 18 (take 510 b))) (rw (zero_two b) at u.1) in
      let w = and_out (is_zero (byte b 17)) (every is_zero (drop 18 (take 510 b))) v.1 in
      omega (arith, eqb→eq (byte b 16) 0 v.0, eqb→eq (byte b 17) 0 w.0)

  module _ (none : h.sets ≡ 0) where
    kinds_none : kinds h ≡ row 1 1 14 1 ∷ row 2 1 2 h.letters ∷ row 3 1 2 h.pairs ∷ row 7 0 16 0 ∷ later_kinds h
    unfolding kinds
    kinds_none = ap (λ (n : ℕ). row 1 1 14 1 ∷ row 2 1 2 h.letters ∷ row 3 1 2 h.pairs ∷ filled 7 16 n ∷ later_kinds h) none

    pub other_first : (kind : ℕ) → T (is_other kind) → blocks_before kind 0 (kinds h) ≡ blocks_before kind 0 (plain_kinds h)
    other_first kind t =
        let u = and_out (not (eqb 1 kind)) (not (eqb 7 kind)) t in
        ap (blocks_before kind 0) kinds_none ∙ rw (not_out (eqb 7 kind) u.1) refl

    same_kind : (k : ℕ) → kind_at h k ≡ plain_kind_at h k
    unfolding kind_at
    same_kind k = ap (kind_from k 0) kinds_none ∙ ap (λ (n : ℕ). cond (ltb k 1) 1 (cond (ltb k 2) 2 n)) (twice (ltb k 3) 3 7 (kind_from k 3 (later_kinds h)))

    pub same_total : block_total h ≡ sum (map (λ r. r.blocks) (plain_kinds h))
    unfolding block_total
    same_total = ap (λ (l : List Kind). sum (map (λ r. r.blocks) l)) kinds_none ∙ omega arith

    pub same_limits : within_limits h ≡ plain_limits h
    unfolding within_limits
    same_limits = rw none (right_true (plain_limits h) true refl)

    -- block 0, where the two bytes are those of the sixth count
    same_first : (b : List ℕ) → number b 16 ≡ 0 → laid_out h 0 b ≡ plain_laid_out h 0 b
    unfolding laid_out kind_at records_at kinds
    same_first b e =
        let rest = every is_zero (drop 18 (take 510 b)) in
        let x = eq-eqb (byte b 16) 0 (omega arith) in
        let y = eq-eqb (byte b 17) 0 (omega arith) in
        ap (λ (z : Bool). eqb (block_kind b) 1 && eqb (record_count b) 1 && z)
        (sym (zero_two b ∙ left_true (is_zero (byte b 16)) (is_zero (byte b 17) && rest) x ∙ left_true (is_zero (byte b 17)) rest y))

    same_later : (k : ℕ) (b : List ℕ) → T (is_other (plain_kind_at h k)) → laid_out h k b ≡ plain_laid_out h k b
    unfolding laid_out records_at
    same_later k b t =
        ap (λ (kind : ℕ). laid_by k b kind (row_of kind (kinds h)) (blocks_before kind 0 (kinds h))) (same_kind k)
        ∙ ap₂ (λ (r : Kind) (n : ℕ). laid_by k b (plain_kind_at h k) r n) (other_row (plain_kind_at h k) t) (other_first (plain_kind_at h k) t)

    pub same_laid : (k : ℕ) (b : List ℕ) → (k ≡ 0 → number b 16 ≡ 0) → laid_out h k b ≡ plain_laid_out h k b
    same_laid zero b e = same_first b (e refl)
    same_laid (suc k) b e = same_later (suc k) b (plain_other h k)
