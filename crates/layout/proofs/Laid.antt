-- From tests 1 and 3 to facts: the limits, and that an image is laid out.
use Prim.Native.Nat.{ℕ, ◌*◌, ◌≤◌}
use native.Mathlib.Omega.{arith}
use mathlib.Core.Bool.{Bool, true, ◌&&◌}
use mathlib.Core.Path.{◌≡◌, refl, ap, ◌∙◌}
use mathlib.Core.List.{List}
use lib.Dec.{eqb, eqb→eq}
use Rattle.model.specs.Lists.{below, every, within}
use Rattle.model.specs.Blocks.{Header, header, block, block_count, block_total, within_limits, laid_out}
use Rattle.model.specs.Refusals.{right_length, right_layout}
use Rattle.model.proofs.Booleans.{and_in, and_out, in5, out4, out5, within_in, within_out, true_of, of_true}
use Rattle.model.proofs.Sealing.{right_blocks, right_few}
use Rattle.image.specs.Laid.{Counted, Limited, Laid}

-- the limits of the five counts that document 01 has
abbrev within_five : Header → Bool
within_five h = within 2 120 h.letters && within 1 250 h.pairs && within 0 32 h.rules && within 1 64 h.lexicons && within 1 2800 h.entries

pub counted_of : (h : Header) → within_limits h ≡ true → Counted h
unfolding within_limits
counted_of h e =
    let u = and_out (within_five h) (within 0 31 h.sets) (of_true (within_limits h) e) in
    let t = out5 (within 2 120 h.letters) (within 1 250 h.pairs) (within 0 32 h.rules) (within 1 64 h.lexicons) (within 1 2800 h.entries) u.0 in
    let a = within_out 2 120 h.letters t.0 in
    let b = within_out 1 250 h.pairs t.1 in
    let c = within_out 0 32 h.rules t.2 in
    let d = within_out 1 64 h.lexicons t.3 in
    let f = within_out 1 2800 h.entries t.4 in
    let g = within_out 0 31 h.sets u.1 in
    record {
      letters_least = a.0;
      letters_most = a.1;
      pairs_least = b.0;
      pairs_most = b.1;
      rules_most = c.1;
      lexicons_least = d.0;
      lexicons_most = d.1;
      entries_least = f.0;
      entries_most = f.1;
      sets_most = g.1;
    }

-- and back: counts that keep the limits pass
module _ (h : Header) where
  pub limits_kept : Counted h → within_limits h ≡ true
  unfolding within_limits
  limits_kept l =
      true_of (within_limits h)
      (and_in (within_five h) (within 0 31 h.sets)
      (in5 (within 2 120 h.letters) (within 1 250 h.pairs) (within 0 32 h.rules) (within 1 64 h.lexicons) (within 1 2800 h.entries)
      (within_in 2 120 h.letters l.letters_least l.letters_most)
      (within_in 1 250 h.pairs l.pairs_least l.pairs_most)
      (within_in 0 32 h.rules (omega arith) l.rules_most)
      (within_in 1 64 h.lexicons l.lexicons_least l.lexicons_most)
      (within_in 1 2800 h.entries l.entries_least l.entries_most))
      (within_in 0 31 h.sets (omega arith) l.sets_most))

-- counts within their limits, a form and a total of blocks that are right
pub limited : (h : Header) → Counted h → within 1 2 h.form ≡ true → block_total h ≤ 128 → Limited h
limited h c f few =
    let u = within_out 1 2 h.form (of_true (within 1 2 h.form) f) in
    record {
      letters_least = c.letters_least;
      letters_most = c.letters_most;
      pairs_least = c.pairs_least;
      pairs_most = c.pairs_most;
      rules_most = c.rules_most;
      lexicons_least = c.lexicons_least;
      lexicons_most = c.lexicons_most;
      entries_least = c.entries_least;
      entries_most = c.entries_most;
      sets_most = c.sets_most;
      form_least = u.0;
      form_most = u.1;
      blocks_most = few;
    }

pub laid : (image : List ℕ) → right_length image ≡ true → right_layout image ≡ true → Laid image (header image)
unfolding right_layout
laid image a b =
    let h = header image in
    let t = out4 (within 1 2 h.form) (within_limits h) (eqb (block_count image) (block_total h)) (every (λ k. laid_out h k (block image k)) (below (block_count image)))
    (of_true (right_layout image) b) in
    let n = eqb→eq (block_count image) (block_total h) t.2 in
    record {
      header_is = refl;
      whole = right_blocks image a ∙ ap (λ (m : ℕ). 512 * m) n;
      limits =
          limited h (counted_of h (true_of (within_limits h) t.1)) (true_of (within 1 2 h.form) t.0) (omega (arith, right_few image a));
    }
