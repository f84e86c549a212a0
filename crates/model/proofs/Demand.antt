-- Demand 3 is the same as two equations with definitions, one for the reply and one for every byte of the buffer. They go into contracts.
-- Two idle listers are refuted from its own words.
use Prim.Native.Nat.{ℕ, zero, suc, ◌*◌, ◌<◌, ◌≤◌}
use mathlib.Core.Bool.{Bool, true, false, cond}
use mathlib.Core.Path.{◌≡◌, refl, sym, ap, ◌∙◌, subst}
use mathlib.Core.Logic.{◌↔◌}
use mathlib.Core.List.{List, [], ◌∷◌, map}
use lib.ListN.{length, take, drop, length-take, length-map}
use lib.Seq.{take_all, take-nil, get_or-take, ext_get_or}
use lib.Dec.{leb}
use borrow.Author.Tests.{leb-true, leb-false, le-leb, lt-leb}
use native.Mathlib.Omega.{arith}
use Rattle.model.specs.Lists.{below}
use Rattle.model.specs.Readings.{Reading}
use Rattle.model.specs.Query.{Request}
use Rattle.model.specs.Refusals.{Verdict, first_failing, image_tests, image_verdict, own_tests, request_tests}
use Rattle.model.specs.Rows.{Reply, all, more, none, refused, row_bytes, row_count, row_at, filled, reply_to}
use Rattle.model.specs.Calls.{request_verdict, all_readings, listing_reply, listing_rows, after_listing}
use Rattle.model.specs.Demand.{Demand3, ProperBeginning, IsMore, reply_rows, rows_handed_back, as_rows}
use Rattle.model.proofs.Lists.{length_map_below}
use Rattle.model.proofs.Tests.{clash, tests_append}
use Rattle.model.proofs.Rows.{filled_rows, filled_past, length_filled, rows_count, rows_in, filled_from}

take_rows : (n : ℕ) (l : List Reading) → take n (as_rows l) ≡ as_rows (take n l)
take_rows zero l = refl
take_rows (suc n) [] = refl
take_rows (suc n) (r ∷ l) = ap {B = List (List ℕ)} (λ m. row_bytes r ∷ m) (take_rows n l)

proper_beginning : {A : Type 0} (d : A) (n : ℕ) (l : List A) → n < length l → ProperBeginning (take n l) l
proper_beginning d n l h =
    let k = length-take n l in
    record { shorter = omega arith; same = λ d i j. get_or-take n l i d (omega arith) }

-- a proper beginning is what is taken from the front
beginning_taken : (xs ys : List (List ℕ)) → ProperBeginning xs ys → xs ≡ take (length xs) ys
beginning_taken xs ys b =
    let k = length-take (length xs) ys in
    let s = b.shorter in
    ext_get_or [] xs (take (length xs) ys) (omega arith) (λ i h. b.same [] i h ∙ sym (get_or-take (length xs) ys i [] h))

-- from the equations to the demand
module _ (before : List ℕ) where
  -- the reply fits all readings; the reply's number is that of the rows
  module _ (l : List Reading) (reply : Reply) (fits : length l ≤ row_count before) (number : reply_rows reply ≡ length l) (whole : IsMore reply → ⊥) (empty : (reply ≡ none) ↔ (l ≡ [])) where
    demand_whole : Demand3 l reply before (filled before l)
    demand_whole =
        record {
          equal_unless_more = (λ e. whole, λ e. ap (λ (n : ℕ). map (row_at (filled before l)) (below n)) number ∙ filled_rows before l);
          more_fills = λ m. absurd (whole m);
          more_begins = λ m. absurd (whole m);
          same_length = length_filled before l fits;
          past_unchanged = rw number (filled_past before l);
          none_when_empty = empty;
        }

  demand_more : (l : List Reading) → row_count before < length l → Demand3 l (more (row_count before)) before (filled before (take (row_count before) l))
  demand_more l h =
      let n = row_count before in
      let rows = take n l in
      let k : length rows ≡ n = length-take n l ∙ omega arith in
      let e : map (row_at (filled before rows)) (below n) ≡ take n (as_rows l) = ap (λ (m : ℕ). map (row_at (filled before rows)) (below m)) (sym k) ∙ filled_rows before rows ∙ sym (take_rows n l) in
      let j : n < length (as_rows l) = omega (arith, length-map l row_bytes) in
      let b = proper_beginning [] n (as_rows l) j in
      record {
        equal_unless_more = (λ f. absurd (let s = b.shorter in omega (arith, ap length (sym e ∙ f))), λ f. absurd (f tt));
        more_fills = λ m. refl;
        more_begins = λ m. rw e b;
        same_length = length_filled before rows (omega arith);
        past_unchanged = subst (λ (m : ℕ). drop (116 * m) (filled before rows) ≡ drop (116 * m) before) k (filled_past before rows);
        none_when_empty = (λ x. clash (cc), λ x. absurd (omega (arith, ap length x)));
      }

  demand_cut : (r : Reading) (l : List Reading) (b : Bool) → leb (length (r ∷ l)) (row_count before) ≡ b
      → Demand3 (r ∷ l) (cond b (all (length (r ∷ l))) (more (row_count before))) before (filled before (take (row_count before) (r ∷ l)))
  demand_cut r l true e =
      let h = leb-true (length (r ∷ l)) (row_count before) e in
      rw (take_all (row_count before) (r ∷ l) h) (demand_whole (r ∷ l) (all (length (r ∷ l))) h refl (λ m. m) (λ x. clash (cc), λ x. clash (cc)))
  demand_cut r l false e = demand_more (r ∷ l) (leb-false (length (r ∷ l)) (row_count before) e)

  demand_holds : (l : List Reading) → Demand3 l (reply_to (row_count before) l) before (filled before (take (row_count before) l))
  unfolding reply_to
  demand_holds [] = rw (take-nil (row_count before)) (demand_whole [] none (omega arith) refl (λ m. m) (λ x. refl, λ x. refl))
  demand_holds (r ∷ l) = demand_cut r l (leb (length (r ∷ l)) (row_count before)) refl

-- and back: the demand fixes the reply and every byte
module _ (l : List Reading) (before after : List ℕ) where
  replies_all : 0 < length l → length l ≤ row_count before → reply_to (row_count before) l ≡ all (length l)
  unfolding reply_to
  replies_all = go l
    where
      go : (l : List Reading) → 0 < length l → length l ≤ row_count before → reply_to (row_count before) l ≡ all (length l)
      go [] h k = absurd (omega arith)
      go (r ∷ l) h k = rw (le-leb (length (r ∷ l)) (row_count before) k) refl

  replies_more : row_count before < length l → reply_to (row_count before) l ≡ more (row_count before)
  unfolding reply_to
  replies_more = go l
    where
      go : (l : List Reading) → row_count before < length l → reply_to (row_count before) l ≡ more (row_count before)
      go [] h = absurd (omega arith)
      go (r ∷ l) h = rw (lt-leb (length (r ∷ l)) (row_count before) h) refl

  some : (reply : Reply) → (reply ≡ none → ⊥) → Demand3 l reply before after → 0 < length l
  some reply f d = go l (λ e. f (d.none_when_empty.1 e))
    where
      go : (l : List Reading) → (l ≡ [] → ⊥) → 0 < length l
      go [] f = absurd (f refl)
      go (r ∷ l) f = omega arith

  Fixed : Reply → Type 0
  Fixed reply = (reply ≡ reply_to (row_count before) l) × (after ≡ filled before (take (row_count before) l))

  fixed_all : (n : ℕ) → Demand3 l (all n) before after → Fixed (all n)
  unfolding Fixed
  fixed_all n d =
      let e = d.equal_unless_more.1 (λ m. m) in
      let c = rows_count before after l n e in
      let i = rows_in before after l n e d.same_length in (
        ap all c ∙ sym (replies_all (some (all n) (λ x. clash (cc)) d) i),
        filled_from before after l n e d.past_unchanged ∙ ap (filled before) (sym (take_all (row_count before) l i)),
      )

  fixed_more : (n : ℕ) → Demand3 l (more n) before after → Fixed (more n)
  unfolding Fixed
  fixed_more n d =
      let b = d.more_begins tt in
      let f = d.more_fills tt in
      let k = length_map_below (row_at after) n in
      let s : n < length l = omega (arith, b.shorter, length-map l row_bytes) in
      let e : map (row_at after) (below n) ≡ as_rows (take n l) = beginning_taken (rows_handed_back (more n) after) (as_rows l) b ∙ ap (λ (m : ℕ). take m (as_rows l)) k ∙ take_rows n l in (
        ap more f ∙ sym (replies_more (omega arith)),
        filled_from before after (take n l) n e d.past_unchanged ∙ ap (λ (m : ℕ). filled before (take m l)) f,
      )

  fixed_none : Demand3 l none before after → Fixed none
  unfolding Fixed reply_to filled
  fixed_none d = let e = d.none_when_empty.0 refl in rw (e, take-nil {A = Reading} (row_count before)) (refl, d.past_unchanged)

  fixed_refused : (k : ℕ) → Demand3 l (refused k) before after → ⊥
  fixed_refused k d = let c = rows_count before after l 0 (d.equal_unless_more.1 (λ m. m)) in omega (arith, some (refused k) (λ x. clash (cc)) d)

  fixed : (reply : Reply) → Demand3 l reply before after → Fixed reply
  fixed (all n) d = fixed_all n d
  fixed (more n) d = fixed_more n d
  fixed none d = fixed_none d
  fixed (refused k) d = absurd (fixed_refused k d)

  -- demand 3 is these two equations
  pub demand3_iff : (reply : Reply) → Demand3 l reply before after ↔ ((reply ≡ reply_to (row_count before) l) × (after ≡ filled before (take (row_count before) l)))
  unfolding Fixed
  demand3_iff reply = (fixed reply, λ e. rw (e.0, e.1) (demand_holds before l))

-- "For every accepted grammar, admissible word, complete path and lent buffer, whatever it held": for every request, one proof
module _ (image : List ℕ) (request : Request) (before after : List ℕ) where
  pub demand3_call : image_verdict image ≡ Verdict.accepted → first_failing (own_tests image request) ≡ Verdict.accepted
      → (reply : Reply) → Demand3 (all_readings image request) reply before after ↔ ((reply ≡ listing_reply image request (row_count before)) × (after ≡ after_listing image request before))
  unfolding image_verdict request_tests request_verdict listing_reply listing_rows after_listing
  demand3_call a b reply = rw ((tests_append (image_tests image) (own_tests image request)).1 (a, b)) (demand3_iff (all_readings image request) before after reply)

-- a lister that replies none to a word with readings
pub none_to_every_word : (r : Reading) (l : List Reading) (before after : List ℕ) → Demand3 (r ∷ l) none before after → ⊥
none_to_every_word r l before after d = let e = d.none_when_empty.0 refl in omega (arith, ap length e)

-- a lister that replies more without filling its rows
pub more_without_filling : (n : ℕ) (l : List Reading) (before after : List ℕ) → n < row_count before → Demand3 l (more n) before after → ⊥
more_without_filling n l before after h d = omega (arith, d.more_fills tt)
