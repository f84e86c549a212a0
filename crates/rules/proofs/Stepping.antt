-- What the steps of all rules read and make: a next state's place in the image, a final mark's, and the states passed so far.
use Prim.Native.Nat.{ℕ, zero, suc, ◌+◌, ◌*◌, ◌-◌, ◌<◌, ◌≤◌}
use native.Mathlib.Omega.{arith}
use native.Mathlib.Decide.{ℕ_discrete}
use mathlib.Core.Bool.{Bool, false, ◌&&◌, not}
use mathlib.Core.Path.{◌≡◌, refl, sym, ap, ap₂, ◌∙◌}
use mathlib.Core.List.{List, map}
use lib.ListN.{length, get_or, take, set, replicate, length-take, length-set, length-replicate, get_or-replicate}
use lib.Seq.{get_or-take, get_or-set_same, get_or-set_other, ext_get_or}
use lib.Dec.{T, eqb}
use borrow.Author.Tests.{ne_eqb}
use Rattle.model.specs.Lists.{below, every, is_zero, byte}
use Rattle.model.specs.Blocks.{header, record_start}
use Rattle.model.specs.RuleTables.{table, column_count, state_count, rows_at, is_final, columns_of}
use Rattle.model.specs.GrammarOf.{grammar_of}
use Rattle.model.specs.Tree.{step_all, alive, begun, finish}
use Rattle.model.proofs.Booleans.{true_of}
use Rattle.model.proofs.Lists.{length_map_below, get_d_map_below, every_in, every_same, every_fails, below_from}
use Rattle.image.specs.Accepted.{Accepted}
use Rattle.image.specs.Index.{index_of}
use Rattle.rules.specs.Live.{Live, Held, step_of, begun_of, alive_of, finish_of, ends_final}
use Rattle.tables.proofs.Laws.{table_inside, table_byte, columns_most, states_least, states_most}
use Rattle.index.proofs.Laws.{column_byte_lem}
use Rattle.rules.proofs.Tables.{grammar_rules, grammar_pairs, table_ok, next_byte, next_within, grammar_final}

module _ {image : List ℕ} (ok : Accepted image (header image)) (r : ℕ) (rule : r < (header image).rules) (at : ℕ) (begins : at ≡ record_start (header image) 4 r) where
  -- a byte of the rule's table, which begins there
  there : (i : ℕ) → i < 506 → byte (table image r) i ≡ byte image (at + i)
  there i h = table_byte image (header image) ok.laid r i h ∙ ap (λ (n : ℕ). byte image (n + i)) (sym begins)

  pub inside : (i : ℕ) → i < 506 → at + i < length image
  inside i h = omega (arith, table_inside image (header image) ok.laid r i rule h)

  first : byte (table image r) 0 ≡ byte image at
  first = there 0 (omega arith) ∙ ap (byte image) (omega arith)

  -- the next state, by what is read before it
  module _ (index : List ℕ) (whole : index ≡ index_of image) (s p column columns states : ℕ) (pair : p ≤ (header image).pairs) (least : 1 ≤ s) (most : s ≤ state_count (table image r))
      (e : column ≡ byte index (256 * r + p)) (f : columns ≡ byte image at) (g : states ≡ byte image (at + 1)) where
    abbrev place : ℕ
    place = at + (2 + 2 * columns + states) + (columns * (s - 1) + column)

    offset : ℕ
    offset = rows_at (table image r) + (column_count (table image r) * (s - 1) + get_or (columns_of image r) p 0)

    place_is : place ≡ at + offset
    unfolding offset
    place_is =
        let a : column ≡ get_or (columns_of image r) p 0 = e ∙ ap (λ (l : List ℕ). byte l (256 * r + p)) whole ∙ column_byte_lem ok r p rule pair in
        let b : columns ≡ column_count (table image r) = f ∙ sym first in
        let c : states ≡ state_count (table image r) = g ∙ sym (there 1 (omega arith)) in
        let m : columns * (s - 1) ≡ column_count (table image r) * (s - 1) = ap (λ (n : ℕ). n * (s - 1)) b in
        omega arith

    offset_most : offset < 506
    unfolding offset
    offset_most = (next_byte ok r s p rule pair least most).0

    pub place_inside : place < length image
    place_inside = omega (arith, place_is, inside offset offset_most)

    pub next_read : byte image place ≡ (grammar_of image).next r s p
    unfolding offset
    next_read = ap (byte image) place_is ∙ sym ((next_byte ok r s p rule pair least most).1 ∙ there offset offset_most)

  -- the final mark of state `last`, by the number of columns
  module _ (last columns : ℕ) (few : last ≤ state_count (table image r)) (f : columns ≡ byte image at) where
    columns_are : columns ≡ column_count (table image r)
    columns_are = f ∙ sym first

    mark_offset : 2 + 2 * columns + (last - 1) < 506
    mark_offset = let right = table_ok ok r rule in omega (arith, columns_are, columns_most _ _ _ right, states_most _ _ _ right)

    pub mark_inside : at + (2 + 2 * columns) + (last - 1) < length image
    mark_inside = omega (arith, inside (2 + 2 * columns + (last - 1)) mark_offset)

    pub final_read : (last ≡ 0 → ⊥) → eqb (byte image (at + (2 + 2 * columns) + (last - 1))) 1 ≡ (grammar_of image).final r last
    unfolding is_final
    final_read some = go last refl
      where
        go : (n : ℕ) → n ≡ last → eqb (byte image (at + (2 + 2 * columns) + (last - 1))) 1 ≡ (grammar_of image).final r last
        go zero e = absurd (some (sym e))
        go (suc n) e =
            ap (λ (b : ℕ). eqb b 1) (ap (byte image) (omega arith) ∙ sym (there (2 + 2 * columns + (last - 1)) mark_offset) ∙ ap (byte (table image r)) (omega (arith, columns_are)))
            ∙ sym (grammar_final ok r (suc n) rule)
            ∙ ap ((grammar_of image).final r) e

-- whether a rule ends in a final state
module _ (image : List ℕ) (r s p last : ℕ) (e : last ≡ (grammar_of image).next r s p) where
  pub ends_nowhere : last ≡ 0 → false ≡ ends_final (grammar_of image) r s p
  unfolding ends_final
  ends_nowhere z = rw (← e, z) refl

  pub ends_somewhere : (last ≡ 0 → ⊥) → (grammar_of image).final r last ≡ ends_final (grammar_of image) r s p
  unfolding ends_final
  ends_somewhere some = rw (← e, ne_eqb last 0 some) refl

-- all rules, in these states, by the boundary pair
abbrev pub ends_all : List ℕ → List ℕ → ℕ → ℕ → Bool
ends_all image states boundary r = ends_final (grammar_of image) r (get_or states r 0) boundary

-- after rules 0 to k - 1 have taken pair p
pub record RulesTook (image states : List ℕ) (p k : ℕ) (after : List ℕ) : Type 0 where
  pub size : length after ≡ length states
  pub new : (j : ℕ) → j < k → get_or after j 0 ≡ (grammar_of image).next j (get_or states j 0) p
  pub lives : (j : ℕ) → j < k → 1 ≤ get_or after j 0
  pub old : (j : ℕ) → k ≤ j → get_or after j 0 ≡ get_or states j 0

pub rules_took_none : (image states : List ℕ) (p : ℕ) → RulesTook image states p 0 states
rules_took_none image states p = record { size = refl; new = λ j h. absurd (omega arith); lives = λ j h. absurd (omega arith); old = λ j h. refl }

pub rules_took_one : (image states : List ℕ) (p k : ℕ) (after : List ℕ) (s : ℕ) → k < length states → RulesTook image states p k after → s ≡ (grammar_of image).next k (get_or states k 0) p → (s ≡ 0 → ⊥) → RulesTook image states p (k + 1) (set after k s)
rules_took_one image states p k after s h q e some =
    record {
      size = length-set after k s ∙ q.size;
      new = λ j l. new (ℕ_discrete j k) l;
      lives = λ j l. lives (ℕ_discrete j k) l;
      old = λ j l. get_or-set_other after k j s 0 (λ d. omega arith) ∙ q.old j (omega arith);
    }
  where
    same : get_or (set after k s) k 0 ≡ s
    same = get_or-set_same after k s 0 (omega (arith, q.size))

    new : {j : ℕ} → Dec (j ≡ k) → j < k + 1 → get_or (set after k s) j 0 ≡ (grammar_of image).next j (get_or states j 0) p
    new {j} (yes d) l = rw d (same ∙ e)
    new {j} (no d) l = get_or-set_other after k j s 0 d ∙ q.new j (omega arith)

    lives : {j : ℕ} → Dec (j ≡ k) → j < k + 1 → 1 ≤ get_or (set after k s) j 0
    lives {j} (yes d) l = rw d (omega (arith, same))
    lives {j} (no d) l = rw (get_or-set_other after k j s 0 d) (q.lives j (omega arith))

module _ (image : List ℕ) where
  -- what stands in state place r, of those that count
  counted : (states : List ℕ) (r : ℕ) → r < (header image).rules → get_or (take (grammar_of image).rules states) r 0 ≡ get_or states r 0
  counted states r h = get_or-take (grammar_of image).rules states r 0 (omega (arith, grammar_rules image))

  stepped_at : (states : List ℕ) (p r : ℕ) → r < (header image).rules → get_or (step_of (grammar_of image) states p) r 0 ≡ (grammar_of image).next r (get_or states r 0) p
  unfolding step_all
  stepped_at states p r h =
      get_d_map_below (λ r. (grammar_of image).next r (get_or (take (grammar_of image).rules states) r 0) p) (grammar_of image).rules r 0 (omega (arith, grammar_rules image))
      ∙ ap (λ (s : ℕ). (grammar_of image).next r s p) (counted states r h)

  -- a rule that comes to 0
  pub step_fails : (states : List ℕ) (p r s : ℕ) → r < (header image).rules
      → s ≡ (grammar_of image).next r (get_or states r 0) p → s ≡ 0
      → alive_of (grammar_of image) (step_of (grammar_of image) states p) ≡ false
  unfolding alive
  step_fails states p r s h e z =
      every_fails (λ r. not (is_zero (get_or (step_of (grammar_of image) states p) r 0))) (grammar_of image).rules r
      (omega (arith, grammar_rules image)) (ap (λ (n : ℕ). not (is_zero n)) (stepped_at states p r h ∙ sym e ∙ z))

  -- the end, rule by rule
  pub finish_is : (states : List ℕ) (boundary : ℕ) → boundary ≡ (header image).pairs → every (ends_all image states boundary) (below (header image).rules) ≡ finish_of (grammar_of image) states
  unfolding finish ends_final
  finish_is states boundary e =
      ap (λ (n : ℕ). every (ends_all image states n) (below (header image).rules)) (e ∙ sym (grammar_pairs image))
      ∙ ap (λ (n : ℕ). every (ends_all image states (grammar_of image).pairs) (below n)) (sym (grammar_rules image))
      ∙ every_same (ends_all image states (grammar_of image).pairs) (λ r. let s = (grammar_of image).next r (get_or (take (grammar_of image).rules states) r 0) (grammar_of image).pairs in not (is_zero s) && (grammar_of image).final r s) (below (grammar_of image).rules)
      (λ r m. rw (counted states r (omega (arith, grammar_rules image, below_from (grammar_of image).rules r m))) refl)

-- all rules in state 1, of which the first n count
ones : (n : ℕ) → n ≤ 32 → ◌≡◌ {A = List ℕ} (take n (replicate 32 1)) (map (λ r. 1) (below n))
ones n h =
    let l = length-take {A = ℕ} n (replicate 32 1) in
    let m = length_map_below {B = ℕ} (λ r. 1) n in
    let k = length-replicate {A = ℕ} 32 1 in
    ext_get_or 0 (take n (replicate 32 1)) (map (λ r. 1) (below n)) (omega arith)
    (λ i j.
    let b : i < n = omega arith in
    get_or-take {A = ℕ} n (replicate 32 1) i 0 b ∙ get_or-replicate {A = ℕ} 32 i 1 0 (omega arith) ∙ sym (get_d_map_below {B = ℕ} (λ r. 1) n i 0 b))

module _ {image : List ℕ} (ok : Accepted image (header image)) where
  -- no rule comes to 0
  pub step_lives : (states : List ℕ) (p : ℕ) (after : List ℕ) → length states ≡ 32 → p ≤ (header image).pairs
      → Live image states → RulesTook image states p (header image).rules after
      → Held image (step_of (grammar_of image) states p) after
  unfolding alive step_all
  step_lives states p after size pair live q =
      let rules = below (grammar_of image).rules in
      let lives : ℕ → Bool = λ r. not (is_zero (get_or (step_of (grammar_of image) states p) r 0)) in
      let each : (r : ℕ) → r < (header image).rules → T (lives r) = λ r h.
      rw (stepped_at image states p r h, ← q.new r h, ne_eqb (get_or after r 0) 0 (λ z. omega (arith, q.lives r h))) tt in
      record {
        alive_is = true_of (every lives rules) (every_in lives rules (λ r m. each r (omega (arith, grammar_rules image, below_from (grammar_of image).rules r m))));
        states_are =
            ext_get_or 0 (take (grammar_of image).rules after) (step_of (grammar_of image) states p) sizes
            (λ r l. let h : r < (header image).rules = omega (arith, grammar_rules image, length-take (grammar_of image).rules after) in counted image after r h ∙ q.new r h ∙ sym (stepped_at image states p r h));
        live = λ r h. (q.lives r h, rw (q.new r h) (next_within ok r (get_or states r 0) p h pair (live r h).0 (live r h).1));
      }
    where
      sizes : length (take (grammar_of image).rules after) ≡ length (step_of (grammar_of image) states p)
      sizes = omega (arith, length-take (grammar_of image).rules after, q.size, grammar_rules image, ok.laid.limits.rules_most, length_map_below (λ r. (grammar_of image).next r (get_or (take (grammar_of image).rules states) r 0) p) (grammar_of image).rules)

  pub ones_live : Live image (replicate 32 1)
  ones_live r h =
      let e = get_or-replicate {A = ℕ} 32 r 1 0 (omega (arith, ok.laid.limits.rules_most)) in
      (omega (arith, e), omega (arith, e, states_least _ _ _ (table_ok ok r h)))

  -- from state 1, by the boundary pair
  pub begun_is : (p : ℕ) → p ≡ (header image).pairs → step_of (grammar_of image) (replicate 32 1) p ≡ begun_of (grammar_of image)
  unfolding begun
  begun_is p e =
      let g = grammar_of image in
      ap₂ (step_all g.rules g.next g.final) (ones g.rules (omega (arith, grammar_rules image, ok.laid.limits.rules_most))) (e ∙ sym (grammar_pairs image))

  -- rules in states that their tables have are alive
  pub live_alive : (states : List ℕ) → Live image states → T (alive_of (grammar_of image) (take (grammar_of image).rules states))
  unfolding alive
  live_alive states live =
      every_in (λ r. not (is_zero (get_or (take (grammar_of image).rules states) r 0))) (below (grammar_of image).rules)
      (λ r m.
      let h : r < (header image).rules = omega (arith, grammar_rules image, below_from (grammar_of image).rules r m) in
      let l = live r h in
      rw (counted image states r h, ne_eqb (get_or states r 0) 0 (λ z. omega arith)) tt)
