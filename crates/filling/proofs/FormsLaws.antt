-- The six parts of the index, each filled, as the whole.
use Prim.Native.Nat.{ℕ, suc, ◌<◌, ◌≤◌}
use native.Mathlib.Omega.{arith}
use mathlib.Core.Path.{◌≡◌, sym, ap, ◌∙◌, subst}
use mathlib.Core.Logic.{inl, inr}
use mathlib.Core.List.{List}
use lib.ListN.{length, get_or}
use Rattle.model.specs.Lists.{byte}
use Rattle.model.specs.Blocks.{Header, header}
use Rattle.model.specs.GrammarOf.{grammar_of}
use Rattle.image.specs.Accepted.{Accepted}
use Rattle.letters.proofs.Laws.{laid_pairs}
use Rattle.forms.specs.Letters.{row_count, row_letter, Rowed}
use Rattle.forms.specs.Forms.{forms_end, rows_in, flags_in, order_in, shared_in, slots_in, skips_in, FormsOf}
use Rattle.orders.specs.Orders.{Ordered}
use Rattle.forms.specs.Filling.{RowsOf, FlagsOf, SkipsOf, Held, Sharing, LettersFilled, SlotsFilled}
use borrow.Rule.Slice.PartMut.{put_mid}
use Rattle.filling.proofs.Parts.{Put, put_part}
use Rattle.forms.proofs.SlottedLaws.{slotted_of}

module _ (image : List ℕ) (h : Header) (a : Accepted image h) where
  laid_lexicons : h.lexicons ≡ (header image).lexicons
  laid_lexicons = ap (λ (g : Header). g.lexicons) a.laid.header_is

  pub forms_of_lem : (old forms : List ℕ) → LettersFilled image old h.pairs h.lexicons → SlotsFilled image old forms h.lexicons h.entries → FormsOf image forms
  unfolding grammar_of
  forms_of_lem old forms l s = record {
    long = s.long;
    rowed = λ t k. subst (λ (x : List ℕ). Rowed x t) (sym rows) (row t k);
    paired =
        λ p k g. subst (λ (x : List ℕ). (j : ℕ) × ((j < row_count x ((grammar_of image).surface p)) × (row_letter x ((grammar_of image).surface p) j ≡ (grammar_of image).lexical p)))
        (sym rows) (l.rows.paired p (omega (arith, laid_pairs a.laid)) g);
    deleted = λ p k g. subst (λ (x : List ℕ). get_or x ((grammar_of image).lexical p) 0 ≡ 0 → ⊥) (sym flags) (l.flags.deleted p (omega (arith, laid_pairs a.laid)) g);
    order_few = subst (λ (x : List ℕ). byte x 0 ≤ 64) (sym order) l.order.few;
    ordered =
        λ k m. let same : byte (order_in forms) 0 ≡ byte (order_in old) 0 = ap (λ (x : List ℕ). byte x 0) order in omega
        (arith, laid_lexicons, l.order.each k (omega arith), ap (λ (x : List ℕ). byte x (suc k)) order);
    slotted = λ x k. slotted_of image h a (slots_in forms) s.slots (shared_in forms) (skips_in forms) s.shared s.skips x (omega (arith, laid_lexicons)) s.shared.neighbours.long s.skips.long;
  }
    where
      rows : rows_in forms ≡ rows_in old
      rows = s.front 0 30976 (omega arith)

      flags : flags_in forms ≡ flags_in old
      flags = s.front 30976 128 (omega arith)

      order : order_in forms ≡ order_in old
      order = s.front 31104 128 (omega arith)

      row : (t : ℕ) → t ≤ 120 → Rowed (rows_in old) t
      row t k = record { inside = omega (arith, l.rows.long); count_in = omega (arith, l.rows.few t k, a.laid.limits.pairs_most); letters_in = l.rows.letters_in t k }

-- the three parts before the slots put in place one after another
module _ (out rows flags order : List ℕ) (long : length out ≡ forms_end) (rows_long : length rows ≡ 30976) (flags_long : length flags ≡ 128) (order_long : length order ≡ 128) where
  abbrev with_rows : List ℕ
  with_rows = put_mid 0 30976 out rows

  rows_put : Put out with_rows 0 30976 rows
  rows_put = put_part out rows 0 30976 (omega arith) rows_long

  abbrev with_flags : List ℕ
  with_flags = put_mid 30976 128 with_rows flags

  flags_put : Put with_rows with_flags 30976 128 flags
  flags_put = put_part with_rows flags 30976 128 (omega (arith, rows_put.long)) flags_long

  abbrev with_order : List ℕ
  with_order = put_mid 31104 128 with_flags order

  order_put : Put with_flags with_order 31104 128 order
  order_put = put_part with_flags order 31104 128 (omega (arith, rows_put.long, flags_put.long)) order_long

  pub letters_filled : (image : List ℕ) (pairs lexicons : ℕ) → RowsOf image rows pairs → FlagsOf image flags pairs → Ordered order lexicons → LettersFilled image with_order pairs lexicons
  letters_filled image pairs lexicons r f o = record {
    long = order_put.long ∙ flags_put.long ∙ rows_put.long ∙ long;
    rows = subst (λ (l : List ℕ). RowsOf image l pairs) (sym (order_put.elsewhere 0 30976 (inl (omega arith)) ∙ flags_put.elsewhere 0 30976 (inl (omega arith)) ∙ rows_put.here)) r;
    flags = subst (λ (l : List ℕ). FlagsOf image l pairs) (sym (order_put.elsewhere 30976 128 (inl (omega arith)) ∙ flags_put.here)) f;
    order = subst (λ (l : List ℕ). Ordered l lexicons) (sym order_put.here) o;
  }

-- the slots put in place, and after them their skips and what they share
module _ (out slots : List ℕ) (long : length out ≡ forms_end) (slots_long : length slots ≡ 45056) where
  abbrev pub with_slots : List ℕ
  with_slots = put_mid 34048 45056 out slots

  pub slots_put : Put out with_slots 34048 45056 slots
  slots_put = put_part out slots 34048 45056 (omega arith) slots_long

  pub slots_put_long : length with_slots ≡ forms_end
  slots_put_long = slots_put.long ∙ long

  module _ (skips : List ℕ) (skips_long : length skips ≡ 67584) where
    abbrev pub with_skips : List ℕ
    with_skips = put_mid 79104 67584 with_slots skips

    skips_put : Put with_slots with_skips 79104 67584 skips
    skips_put = put_part with_slots skips 79104 67584 (omega (arith, slots_put_long)) skips_long

    pub skips_put_long : length with_skips ≡ forms_end
    skips_put_long = skips_put.long ∙ slots_put_long

    module _ (shared : List ℕ) (shared_long : length shared ≡ 2816) where
      abbrev pub with_shared : List ℕ
      with_shared = put_mid 31232 2816 with_skips shared

      shared_put : Put with_skips with_shared 31232 2816 shared
      shared_put = put_part with_skips shared 31232 2816 (omega (arith, skips_put_long)) shared_long

      pub shared_put_long : length with_shared ≡ forms_end
      shared_put_long = shared_put.long ∙ skips_put_long

      kept : slots_in with_shared ≡ slots_in with_slots
      kept = shared_put.elsewhere 34048 45056 (inr (omega (arith, skips_put_long))) ∙ skips_put.elsewhere 34048 45056 (inl (omega arith))

      skips_are : skips_in with_shared ≡ skips
      skips_are = shared_put.elsewhere 79104 67584 (inr (omega (arith, skips_put_long))) ∙ skips_put.here

      pub slots_filled : (image : List ℕ) (lexicons entries : ℕ) → Held image slots lexicons entries → Sharing image (slots_in with_slots) shared lexicons entries → SkipsOf shared skips entries 0
          → SlotsFilled image out with_shared lexicons entries
      slots_filled image lexicons entries held s skip = record {
        long = shared_put_long;
        front = λ b m k. shared_put.elsewhere b m (inl k) ∙ skips_put.elsewhere b m (inl (omega arith)) ∙ slots_put.elsewhere b m (inl (omega arith));
        slots = subst (λ (l : List ℕ). Held image l lexicons entries) (sym (kept ∙ slots_put.here)) held;
        shared =
            subst (λ (l : List ℕ). Sharing image l (shared_in with_shared) lexicons entries) (sym kept)
            (subst (λ (l : List ℕ). Sharing image (slots_in with_slots) l lexicons entries) (sym shared_put.here) s);
        skips = subst (λ (l : List ℕ). SkipsOf (shared_in with_shared) l entries 0) (sym skips_are) (subst (λ (l : List ℕ). SkipsOf l skips entries 0) (sym shared_put.here) skip);
      }
