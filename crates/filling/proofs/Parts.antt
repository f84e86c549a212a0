-- A part of a list put in place, and the other parts as they were.
use Prim.Native.Nat.{ℕ, ◌+◌, ◌-◌, ◌≤◌}
use native.Mathlib.Omega.{arith}
use mathlib.Core.Path.{◌≡◌, sym, ap, ◌∙◌}
use mathlib.Core.Logic.{◌⊎◌, inl, inr}
use mathlib.Core.List.{List, ◌++◌}
use lib.ListN.{length, take, drop, length-take, length-drop}
use lib.Seq.{take_at, drop_at, drop-drop, take-take, length-take-le}
use borrow.Rule.Slice.PartMut.{put_mid, same_len_mid, take_put, drop_put}
use Rattle.model.proofs.Lists.{drop_take}

pub part_long : (l : List ℕ) (a n : ℕ) → a + n ≤ length l → length (take n (drop a l)) ≡ n
part_long l a n h = omega (arith, length-take n (drop a l), length-drop a l)

-- n elements from a on are these, and those before and after are as they were
pub record Put (old new : List ℕ) (a n : ℕ) (part : List ℕ) : Type 0 where
  pub long : length new ≡ length old
  pub here : take n (drop a new) ≡ part
  pub elsewhere : (b m : ℕ) → (b + m ≤ a) ⊎ ((a + n ≤ b) × (b + m ≤ length old)) → take m (drop b new) ≡ take m (drop b old)

pub put_part : (old part : List ℕ) (a n : ℕ) → a + n ≤ length old → length part ≡ n → Put old (put_mid a n old part) a n part
put_part old part a n inside e = record {
  long = whole;
  here = ap (take n) (drop_at (take a old) (part ++ drop n (drop a old)) a front) ∙ take_at part (drop n (drop a old)) n e;
  elsewhere = λ b m o. go b m o;
}
  where
    front : length (take a old) ≡ a
    front = length-take-le a old (omega arith)

    whole : length (put_mid a n old part) ≡ length old
    whole = same_len_mid a n old part (e ∙ sym (part_long old a n inside))

    go : (b m : ℕ) → (b + m ≤ a) ⊎ ((a + n ≤ b) × (b + m ≤ length old)) → take m (drop b (put_mid a n old part)) ≡ take m (drop b old)
    go b m (inl l) =
        sym (drop_take b m (put_mid a n old part))
        ∙ ap (drop b) (sym (take-take (b + m) a (put_mid a n old part) l) ∙ ap (take (b + m)) (take_put a n old part (omega arith)) ∙ take-take (b + m) a old l)
        ∙ drop_take b m old
    go b m (inr l) =
        let back : a + n - a ≡ n = omega arith in
        let after : drop (a + n) (put_mid a n old part) ≡ drop (a + n) old =
        ap (λ (k : ℕ). drop (a + n) (put_mid a k old part)) (sym back) ∙ drop_put a (a + n) old part (omega arith) inside (omega arith) in
        let rest : a + n + (b - (a + n)) ≡ b = omega arith in
        let same : drop b (put_mid a n old part) ≡ drop b old =
        ap (λ (k : ℕ). drop k (put_mid a n old part)) (sym rest) ∙ sym (drop-drop (b - (a + n)) (a + n) (put_mid a n old part)) ∙ ap (drop (b - (a + n))) after
        ∙ drop-drop (b - (a + n)) (a + n) old ∙ ap (λ (k : ℕ). drop k old) rest in
        ap (take m) same
