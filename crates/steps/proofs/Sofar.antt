-- What a step adds to what came in and went out before.
use Prim.Native.Nat.{ℕ, ◌+◌, ◌*◌, ◌-◌, ◌<◌, ◌≤◌}
use native.Mathlib.Omega.{arith}
use mathlib.Core.Path.{◌≡◌, refl, sym, ap, ap₂, ◌∙◌, subst}
use mathlib.Core.List.{List, [], ◌++◌, append_assoc, append-nil}
use lib.ListN.{length, take, drop, length-append, length-drop, take-append-drop}
use lib.Seq.{take_all, drop-drop, length-take-le, drop-append-le, take-append-le}
use Rattle.std.specs.Prelude.{Option, Some, None}
use Rattle.model.specs.Lines.{printed}
use Rattle.parse.specs.Fields.{Begun}
use Rattle.moving.specs.declared.Count.{Count}
use Rattle.moving.specs.Told.{GivenOut}
use Rattle.steps.specs.declared.Stand.{Stand}
use Rattle.answers.specs.Input.{begun_after, text_after, last_text}
use Rattle.steps.specs.Sofar.{Within, waiting, Sofar, WentOn, Over, Finished, Ended}
use Rattle.answers.proofs.Reading.{begun_parts, text_parts, begun_nothing, printed_is}

-- a part of a list, and the part after it
pub parts_join : (l : List ℕ) (i j n : ℕ) → i ≤ j → j ≤ n → n ≤ length l → take (j - i) (drop i (take n l)) ++ take (n - j) (drop j l) ≡ take (n - i) (drop i l)
parts_join l i j n a b c =
    let m = take n l in
    let whole : m ++ drop n l ≡ l = take-append-drop n l in
    let long : length m ≡ n = length-take-le n l c in
    let here : (k : ℕ) → k ≤ n → take (n - k) (drop k l) ≡ drop k m
    = λ k h. ap (λ (x : List ℕ). take (n - k) (drop k x)) (sym whole)
    ∙ ap (take (n - k)) (drop-append-le k m (drop n l) (omega (arith, long)))
    ∙ take-append-le (n - k) (drop k m) (drop n l) (omega (arith, length-drop k m, long))
    ∙ take_all (n - k) (drop k m) (omega (arith, length-drop k m, long)) in
    let e : i + (j - i) ≡ j = omega arith in
    ap (λ (x : List ℕ). take (j - i) (drop i m) ++ x) (here j b ∙ sym (drop-drop (j - i) i m ∙ ap (λ (k : ℕ). drop k m) e))
    ∙ take-append-drop (j - i) (drop i m)
    ∙ sym (here i (omega arith))

-- `part` is answered, `more` came in, `text` went out
module _ (image chunk chunk' line line' : List ℕ) (s s' : Stand) (part more text : List ℕ)
    (order : waiting chunk s ++ more ≡ part ++ waiting chunk' s')
    (begun : (l : List ℕ) → Begun line s.kept l → Begun line' s'.kept (begun_after l part))
    (answers : (l : List ℕ) → Begun line s.kept l → text ≡ text_after image l part)
    (taken : s'.taken.bytes ≡ s.taken.bytes + length more) (handed : s'.handed.bytes ≡ s.handed.bytes + length text) where
  sofar_more : (given handed : List ℕ) → Sofar image given handed chunk line s → Sofar image (given ++ more) (handed ++ text) chunk' line' s'
  sofar_more given gone h =
      let l = begun_after [] h.answered in
      record {
        answered = h.answered ++ part;
        in_order = ap (λ (x : List ℕ). x ++ more) h.in_order
            ∙ append_assoc h.answered (waiting chunk s) more
            ∙ ap (λ (x : List ℕ). h.answered ++ x) order
            ∙ sym (append_assoc h.answered part (waiting chunk' s'));
        begun = subst (Begun line' s'.kept) (sym (begun_parts [] h.answered part)) (begun l h.begun);
        text = ap₂ (λ (x y : List ℕ). x ++ y) h.text (answers l h.begun) ∙ sym (text_parts image [] h.answered part);
        taken_count = omega (arith, taken, h.taken_count, length-append given more);
        handed_count = omega (arith, handed, h.handed_count, length-append gone text);
      }

  -- and so for what stands at the front of the chunk and of `out`
  pub went_on : (out' : List ℕ) → more ≡ take (length more) chunk' → text ≡ take (length text) out' → length more ≤ 65536 → length text ≤ 65536 → s'.at ≤ s'.n → s'.n ≤ 65536 → s'.kept ≤ 256
      → WentOn image chunk chunk' line line' out' s s'
  went_on out' m t more-few text-few a b c =
      let i : s'.taken.bytes - s.taken.bytes ≡ length more = omega (arith, taken) in
      let j : s'.handed.bytes - s.handed.bytes ≡ length text = omega (arith, handed) in
      record {
        sofar = λ given gone h. rw (i, j, ← m, ← t) (sofar_more given gone h);
        in_order = a;
        inside = b;
        few = c;
        taken_more = omega (arith, taken);
        handed_more = omega (arith, handed);
      }

-- the last line, where nothing waits
pub over : (image chunk line out' : List ℕ) (s : Stand) (count : Count) (text : List ℕ) → s.at ≡ s.n → ((l : List ℕ) → Begun line s.kept l → text ≡ last_text image l) → text ≡ take (length text) out'
    → count.bytes ≡ s.handed.bytes + length text → (chunk' line' : List ℕ) → Over image chunk chunk' line line' out' s count
over image chunk line out' s count text none last t more chunk' line' =
    let z : s.n - s.at ≡ 0 = omega arith in
    let i : count.bytes - s.handed.bytes ≡ length text = omega (arith, more) in
    let prints : (given handed : List ℕ) → Sofar image given handed chunk line s → handed ++ text ≡ printed image given
    = λ given handed h.
    let all : given ≡ h.answered = h.in_order ∙ ap (λ (k : ℕ). h.answered ++ take k (drop s.at chunk)) z ∙ append-nil h.answered in
    ap₂ (λ (x y : List ℕ). x ++ y) h.text (last (begun_after [] h.answered) h.begun) ∙ sym (printed_is image h.answered) ∙ sym (ap (printed image) all) in
    record { prints = λ given handed h. (rw (i, ← t) (prints given handed h), omega (arith, more, h.handed_count, length-append handed text, ap length (prints given handed h))) }

-- the same, where it was handed over
pub last_given : (image line line' out : List ℕ) (s : Stand) (end : ℕ) → end ≤ length out → s.at ≡ s.n → ((l : List ℕ) → Begun line s.kept l → take end out ≡ last_text image l)
    → (given : Option Count) → GivenOut (length (take end out)) s.handed given → (chunk chunk' : List ℕ) → Finished image chunk chunk' line line' out s given
last_given image line line' out s end fits none last (Some count) more chunk chunk' =
    over image chunk line out s count (take end out) none last (sym (ap (λ (n : ℕ). take n out) (length-take-le end out fits))) more chunk' line'
last_given image line line' out s end fits none last None more chunk chunk' = tt

-- nothing has come in or gone out
pub sofar_none : (image chunk line : List ℕ) (s : Stand) → s.kept ≡ 0 → s.at ≡ s.n → s.taken.bytes ≡ 0 → s.handed.bytes ≡ 0 → Sofar image [] [] chunk line s
sofar_none image chunk line s k a t h =
    let z : s.n - s.at ≡ 0 = omega arith in
    record { answered = []; in_order = rw z refl; begun = rw k (begun_nothing line); text = refl; taken_count = t; handed_count = h }

-- at the head of the loop, after so many steps
pub record Head (image chunk line : List ℕ) (s : Stand) (turns : ℕ) : Type 0 where
  pub in_order : s.at ≤ s.n
  pub inside : s.n ≤ 65536
  pub few : s.kept ≤ 256
  pub taken_few : s.taken.bytes ≤ 65536 * turns
  pub handed_few : s.handed.bytes ≤ 65536 * turns
  pub given : List ℕ
  pub gone : List ℕ
  pub sofar : Sofar image given gone chunk line s

pub head_none : (image chunk line : List ℕ) (s : Stand) → s.kept ≡ 0 → s.at ≡ 0 → s.n ≡ 0 → s.taken.bytes ≡ 0 → s.handed.bytes ≡ 0 → Head image chunk line s 0
head_none image chunk line s k a n t h = record {
  in_order = omega arith;
  inside = omega arith;
  few = omega arith;
  taken_few = omega arith;
  handed_few = omega arith;
  given = [];
  gone = [];
  sofar = sofar_none image chunk line s k (a ∙ sym n) t h;
}

module _ {image chunk line : List ℕ} {s : Stand} {turns : ℕ} (head : Head image chunk line s turns) where
  pub head_within : turns < 140737488355328 → Within s
  head_within l = record { in_order = head.in_order; inside = head.inside; few = head.few; taken_small = omega (arith, head.taken_few); handed_small = omega (arith, head.handed_few) }

  pub head_more : {chunk' line' out' : List ℕ} {s' : Stand} → WentOn image chunk chunk' line line' out' s s' → Head image chunk' line' s' (turns + 1)
  head_more on = record {
    in_order = on.in_order;
    inside = on.inside;
    few = on.few;
    taken_few = omega (arith, on.taken_more, head.taken_few);
    handed_few = omega (arith, on.handed_more, head.handed_few);
    given = _;
    gone = _;
    sofar = on.sofar head.given head.gone head.sofar;
  }

  pub head_over : {chunk' line' out' : List ℕ} {count : Count} → Over image chunk chunk' line line' out' s count → Ended image (Some (record { taken = s.taken; handed = count }))
  head_over end = (head.given, (head.sofar.taken_count, (end.prints head.given head.gone head.sofar).1))
