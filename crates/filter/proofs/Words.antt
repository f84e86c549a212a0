-- A word, or what else may stand at so many places: what its sets have to hold, and what is kept of each lexicon to begin with.
use Prim.Native.Nat.{ℕ, zero, suc, ◌*◌, ◌-◌, ◌/◌, ◌%◌, ◌^◌, ◌<◌, ◌≤◌}
use native.Mathlib.Omega.{arith}
use native.Mathlib.Nat.{pow-suc}
use mathlib.Core.Bool.{Bool, cond}
use mathlib.Core.Logic.{◌⊎◌, inl, inr, ⊎_elim}
use mathlib.Core.Path.{◌≡◌, refl, sym, ap, ◌∙◌, subst, fun_ext}
use mathlib.Core.List.{List}
use lib.ListN.{length, get_or}
use lib.Pow.{pow_pos}
use lib.Dec.{T, ltb, eqb, eqb→eq, ltb→lt, not_T}
use borrow.Author.Tests.{ne_eqb}
use Rattle.model.specs.Lists.{is_zero, bit}
use Rattle.model.specs.Blocks.{header}
use Rattle.model.specs.Lexicon.{entry, form_of}
use Rattle.model.specs.GrammarOf.{grammar_of}
use Rattle.model.specs.Query.{Pattern, Query, exactly, anything}
use Rattle.model.proofs.Booleans.{and_out, eq→eqb}
use Rattle.positions.specs.Positions.{Feasible, Inserted}
use Rattle.filter.specs.Reach.{Covers}
use Rattle.filter.specs.Lexicons.{after_in, Reaches}
use Rattle.positions.specs.Masks.{back_spread_mask}
use Rattle.positions.specs.Stack.{set_of, deletes_of, feasible_of, reach_of, Begins}
use Rattle.forms.specs.Forms.{rows_in, flags_in, FormsOf}
use Rattle.filter.specs.Letters.{Wrote}
use Rattle.filter.specs.Sets.{Means}
use Rattle.filter.proofs.Backwards.{spread_means}
use Rattle.filter.proofs.Afterward.{after_from}
use Rattle.filter.proofs.Reach.{leads_within, inserted_within}

-- a word allows letters at its own places alone
pub exactly_within : (word : List ℕ) (i s : ℕ) → T ((exactly word).allows i s) → i < length word
exactly_within word i s t = ltb→lt i (length word) (and_out (ltb i (length word)) (eqb (get_or word i 0) s) t).0

-- this is asked of the word, whatever is asked of the path
abbrev pub asks_word : Pattern → Pattern → Query
asks_word t path = record { entries = path; letters = t; spoken = anything }

-- the sets that rows by surface letter make of what may stand at n places
module _ (image forms masks : List ℕ) (t path : Pattern) (n : ℕ) (placed : (i s : ℕ) → T (t.allows i s) → i < n) (f : FormsOf image forms) (w : Wrote (rows_in forms) t masks n) where
  wrote_paired : (p : ℕ) → p < (header image).pairs → (i : ℕ) → ((grammar_of image).surface p ≡ 0 → ⊥) → T (t.allows i ((grammar_of image).surface p))
      → T (bit (get_or masks ((grammar_of image).lexical p) 0) i)
  wrote_paired p inside i some allows =
      let s = (grammar_of image).surface p in
      let r = f.paired p inside some in
      subst (λ (a : ℕ). T (bit (get_or masks a 0) i)) r.1.1 (w.stands i (placed i s allows) s allows r.0 r.1.0)

  inside_is : {p : ℕ} → p < (grammar_of image).pairs → p < (header image).pairs
  unfolding grammar_of
  inside_is h = h

  pub word_covers : Covers (grammar_of image) (asks_word t path) (feasible_of masks (flags_in forms))
  word_covers = record {
    paired = λ p inside i few some allows. wrote_paired p (inside_is inside) i some allows;
    deleted = λ p inside e. not_T (is_zero (get_or (flags_in forms) ((grammar_of image).lexical p) 0)) (λ z. f.deleted p (inside_is inside) e (eqb→eq (get_or (flags_in forms) ((grammar_of image).lexical p) 0) 0 z));
  }

-- all positions up to n
ones_half : (n : ℕ) → (2 ^ suc n - 1) / 2 ≡ 2 ^ n - 1
ones_half n = ap (λ (x : ℕ). (x - 1) / 2) (pow-suc 2 n) ∙ half (2 ^ n) (pow_pos n)
  where
    half : (x : ℕ) → 0 < x → (x * 2 - 1) / 2 ≡ x - 1
    half x h = omega arith

ones_odd : (n : ℕ) → (2 ^ suc n - 1) % 2 ≡ 1
ones_odd n = ap (λ (x : ℕ). (x - 1) % 2) (pow-suc 2 n) ∙ odd (2 ^ n) (pow_pos n)
  where
    odd : (x : ℕ) → 0 < x → (x * 2 - 1) % 2 ≡ 1
    odd x h = omega arith

pub ones_has : (n i : ℕ) → i ≤ n → T (bit (2 ^ suc n - 1) i)
ones_has n zero h = subst (λ (x : ℕ). T (eqb x 1)) (sym (ones_odd n)) tt
ones_has zero (suc i) h = absurd (omega arith)
ones_has (suc n) (suc i) h = subst (λ (x : ℕ). T (bit x i)) (sym (ones_half (suc n))) (ones_has n i (omega arith))

ones_only : (n i : ℕ) → T (bit (2 ^ suc n - 1) i) → i ≤ n
ones_only n zero t = omega arith
ones_only zero (suc i) t = absurd (none i t)
  where
    none : (i : ℕ) → T (bit 0 i) → ⊥
    none zero t = t
    none (suc i) t = none i t
ones_only (suc n) (suc i) t = let b = ones_only n i (subst (λ (x : ℕ). T (bit x i)) (ones_half (suc n)) t) in omega arith

-- one position alone
one_only : (j i : ℕ) → T (bit (2 ^ j) i) → i ≡ j
one_only zero zero t = refl
one_only zero (suc i) t = absurd (none i t)
  where
    none : (i : ℕ) → T (bit 0 i) → ⊥
    none zero t = t
    none (suc i) t = none i t
one_only (suc j) zero t = absurd (subst (λ (x : ℕ). T (eqb x 1)) even t)
  where
    even : 2 ^ suc j % 2 ≡ 0
    even = ap (λ (x : ℕ). x % 2) (pow-suc 2 j) ∙ omega arith
one_only (suc j) (suc i) t = let e : 2 ^ suc j / 2 ≡ 2 ^ j = ap (λ (x : ℕ). x / 2) (pow-suc 2 j) ∙ omega arith in ap suc (one_only j i (subst (λ (x : ℕ). T (bit x i)) e t))

pub one_has : (j : ℕ) → T (bit (2 ^ j) j)
one_has zero = tt
one_has (suc j) = let e : 2 ^ suc j / 2 ≡ 2 ^ j = ap (λ (x : ℕ). x / 2) (pow-suc 2 j) ∙ omega arith in subst (λ (x : ℕ). T (bit x j)) (sym e) (one_has j)

-- to begin with: every position up to the word's end for each lexicon, and the end spread backwards
module _ (image masks flags reach : List ℕ) (t path : Pattern) (n : ℕ) (ends : (k : ℕ) → t.may_end k ≡ eqb k n) (most : (header image).lexicons ≤ 64) where
  abbrev f : Feasible
  f = feasible_of masks flags

  abbrev Begun : Type 0
  Begun = Begins masks (2 ^ n) (header image).lexicons reach

  module _ (begins : Begun) where
    lexicons : (x : ℕ) → x < (header image).lexicons → get_or reach x 0 ≡ 2 ^ suc n - 1
    lexicons x l = begins.lexicons x l ∙ ap (λ (m : ℕ). m - 1) (omega (arith, pow-suc 2 n))

  ends_at : Means (2 ^ n) (λ k. T (eqb k n))
  ends_at = record { only = λ i t. eq→eqb i n (one_only n i t); all = λ i t. subst (λ (x : ℕ). T (bit (2 ^ n) x)) (sym (eqb→eq i n t)) (one_has n) }

  end_means : Means (back_spread_mask 8 (set_of masks flags 0) (2 ^ n)) (Inserted f 8 (λ k. T (eqb k n)))
  end_means = spread_means (set_of masks flags) (deletes_of masks flags) 8 (2 ^ n) (λ k. T (eqb k n)) ends_at

  -- whatever is kept stands within the word
  kept_within : Begun → (x : ℕ) → (x < (header image).lexicons) ⊎ (x ≡ 255) → (k : ℕ) → T (reach_of reach x k) → k ≤ n
  kept_within b x (inl l) k t =
      let end : x ≡ 255 → ⊥ = λ z. omega arith in
      ones_only n k (subst (λ (m : ℕ). T (bit m k)) (lexicons b x l) (subst (λ (c : Bool). T (bit (get_or reach (cond c 64 x) 0) k)) (ne_eqb x 255 end) t))
  kept_within b x (inr e) k t =
      inserted_within f n 8 (λ k. T (eqb k n)) (λ k z. omega (arith, eqb→eq k n z)) k
      (end_means.only k (subst (λ (m : ℕ). T (bit m k)) b.ends (subst (λ (y : ℕ). T (reach_of reach y k)) e t)))

  -- and so does what is kept after an entry
  after_within : Begun → (e k : ℕ) → T (after_in image (reach_of reach) e k) → k ≤ n
  after_within b e k t =
      ⊎_elim
      (λ u. kept_within b 255 (inr refl) k u.1)
      (λ u. kept_within b u.0 (inl u.1.0) k u.1.1.1)
      (after_from image (reach_of reach) e k t)

  pub word_reaches : Begun → Reaches image (asks_word t path) f (reach_of reach)
  word_reaches b = record {
    at_end = λ i s. subst (λ (m : ℕ). T (bit m i)) (sym b.ends) (end_means.all i (subst (λ (h : ℕ → Bool). Inserted f 8 (λ k. T (h k)) i) (fun_ext ends) s));
    onward = λ x l e inside has i s. place x l i (leads_within f n (form_of (entry image e)) (λ k. T (after_in image (reach_of reach) e k)) (after_within b e) i s);
  }
    where
      place : (x : ℕ) → x < (header image).lexicons → (i : ℕ) → i ≤ n → T (reach_of reach x i)
      place x l i h =
          let end : x ≡ 255 → ⊥ = λ z. omega arith in
          subst (λ (c : Bool). T (bit (get_or reach (cond c 64 x) 0) i)) (sym (ne_eqb x 255 end)) (subst (λ (m : ℕ). T (bit m i)) (sym (lexicons b x l)) (ones_has n i h))
