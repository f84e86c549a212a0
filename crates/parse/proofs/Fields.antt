-- The fields of a line are the parts that its spaces divide it into; what is read of them one after another, and of a field digit by digit.
use Prim.Native.Nat.{ℕ, zero, suc, ◌+◌, ◌*◌, ◌-◌, ◌<◌, ◌≤◌}
use native.Mathlib.Numerals.{add-one}
use native.Mathlib.Omega.{arith}
use mathlib.Core.Bool.{Bool, true, false, ◌&&◌, cond, true≢false}
use mathlib.Core.Path.{◌≡◌, refl, sym, ap, ap₂, ◌∙◌}
use mathlib.Core.List.{List, [], ◌∷◌, ◌++◌, map, append_assoc, append-nil}
use lib.ListN.{length, get_or, set, take, drop, length-append, length-set, take-append-drop}
use lib.Seq.{take_all, take-suc, take-suc-set, drop-set-lt, drop-drop, drop-cons, drop-length, length-take-le}
use lib.Dec.{leb, eqb}
use borrow.Author.Rules.{rules}
use borrow.Author.Tests.{le-leb, lt-leb, tests}
use Rattle.std.specs.Prelude.{Result, Ok, Err, Some, None}
use Rattle.std.specs.Result.{OkIff, result_ok}
use Rattle.std.specs.List.{slice_split, onto_first}
use Rattle.std.proofs.lemmas.List.Splits.{length-slice_split}
use Rattle.model.specs.Lists.{every, within}
use Rattle.model.specs.Lines as lines
use Rattle.model.specs.Lines.{fields_from, fields_of, value_from, value_of, is_number, line_of}
use Rattle.model.proofs.Lists.{member_at, every_append, every_not}
use Rattle.parse.specs.Fields.{number_of, first_values, word_after}

abbrev pub parts : List ℕ → List (List ℕ)
parts = slice_split (λ b. eqb b 32)

-- the parts of a line that goes on after the beginning of a field
begun : List ℕ → List (List ℕ) → List (List ℕ)
begun field [] = field ∷ []
begun field (p ∷ ps) = (field ++ p) ∷ ps

begun_more : (field : List ℕ) (b : ℕ) (ps : List (List ℕ)) → begun field (onto_first b ps) ≡ begun (field ++ (b ∷ [])) ps
unfolding begun
begun_more field b [] = refl
begun_more field b (p ∷ ps) = ap (λ (f : List ℕ). f ∷ ps) (sym (append_assoc field (b ∷ []) p))

begun_none : (ps : List (List ℕ)) → 0 < length ps → begun [] ps ≡ ps
unfolding begun
begun_none [] h = absurd (omega arith)
begun_none (p ∷ ps) h = refl

some_parts : (line : List ℕ) → 0 < length (parts line)
some_parts line = omega (arith, length-slice_split (λ (x : ℕ). eqb x 32) line)

fields_begun : (field line : List ℕ) → begun field (parts line) ≡ fields_from field line
unfolding begun fields_from
fields_begun field [] = ap (λ (f : List ℕ). f ∷ []) (append-nil field)
fields_begun field (b ∷ bs) = go (eqb b 32) (fields_begun [] bs) (fields_begun (field ++ (b ∷ [])) bs)
  where
    go : (t : Bool) → begun [] (parts bs) ≡ fields_from [] bs → begun (field ++ (b ∷ [])) (parts bs) ≡ fields_from (field ++ (b ∷ [])) bs
        → begun field (cond t ([] ∷ parts bs) (onto_first b (parts bs))) ≡ cond t (field ∷ fields_from [] bs) (fields_from (field ++ (b ∷ [])) bs)
    go true h k = let e : parts bs ≡ fields_from [] bs = sym (begun_none (parts bs) (some_parts bs)) ∙ h in ap₂ (λ (f : List ℕ) (fs : List (List ℕ)). f ∷ fs) (append-nil field) e
    go false h k = begun_more field b (parts bs) ∙ k

pub fields_parts : (line : List ℕ) → parts line ≡ fields_of line
unfolding fields_of
fields_parts line = sym (begun_none (parts line) (some_parts line)) ∙ fields_begun [] line

-- the bytes of fields, and one more after each of them
pub span : List (List ℕ) → ℕ
span [] = 0
span (f ∷ fs) = length f + 1 + span fs

span_from : (field line : List ℕ) → span (fields_from field line) ≡ length field + length line + 1
unfolding span fields_from
span_from field [] = omega arith
span_from field (b ∷ bs) = go (eqb b 32) (span_from [] bs) (span_from (field ++ (b ∷ [])) bs)
  where
    go : (t : Bool) → span (fields_from [] bs) ≡ length {A = ℕ} [] + length bs + 1 → span (fields_from (field ++ (b ∷ [])) bs) ≡ length (field ++ (b ∷ [])) + length bs + 1
        → span (cond t (field ∷ fields_from [] bs) (fields_from (field ++ (b ∷ [])) bs)) ≡ length field + suc (length bs) + 1
    go true h k = omega (arith, h)
    go false h k = omega (arith, k, length-append field (b ∷ []))

span_line : (line : List ℕ) → span (fields_of line) ≡ length line + 1
unfolding fields_of
span_line line = omega (arith, span_from [] line)

-- a value of so many digits is below this
unfoldable pub limit : ℕ → ℕ
limit zero = 1
limit (suc k) = 10 * limit k

limit_most : (k : ℕ) → k ≤ 3 → limit k ≤ 1000
unfolding limit
limit_most zero h = omega arith
limit_most (suc zero) h = omega arith
limit_most (suc (suc zero)) h = omega arith
limit_most (suc (suc (suc zero))) h = omega arith
limit_most (suc (suc (suc (suc k)))) h = absurd (omega arith)

-- a digit more
value_more : (n : ℕ) (ds : List ℕ) (d : ℕ) → value_from n (ds ++ (d ∷ [])) ≡ 10 * value_from n ds + (d - 48)
unfolding value_from
value_more n [] d = refl
value_more n (e ∷ ds) d = value_more (10 * n + (e - 48)) ds d

-- the first bytes of a field are digits, of this value
pub record Digits (field : List ℕ) (at value : ℕ) : Type 0 where
  pub value_is : value ≡ value_of (take at field)
  pub all_digits : every (within 48 57) (take at field) ≡ true
  pub small : value < limit at

pub digits_none : (field : List ℕ) → Digits field 0 0
unfolding value_from limit
digits_none field = record { value_is = refl; all_digits = refl; small = omega arith }

pub digits_few : (field : List ℕ) (at value : ℕ) → Digits field at value → at ≤ 3 → value < 1000
digits_few field at value d h = omega (arith, d.small, limit_most at h)

pub digit_few : (b : ℕ) → within 48 57 b ≡ true → b ≤ 57
digit_few b h = search (rules, tests)

pub digits_more : (field : List ℕ) (at value : ℕ) → Digits field at value → at < length field → within 48 57 (get_or field at 0) ≡ true → Digits field (at + 1) (10 * value + (get_or field at 0 - 48))
unfolding limit
digits_more field at value d inside h =
    let grown : take (at + 1) field ≡ take at field ++ (get_or field at 0 ∷ []) = ap (λ (n : ℕ). take n field) (add-one at) ∙ take-suc field at 0 inside in
    record {
      value_is = ap (λ (v : ℕ). 10 * v + (get_or field at 0 - 48)) d.value_is ∙ sym (ap value_of grown ∙ value_more 0 (take at field) (get_or field at 0));
      all_digits = ap (every (within 48 57)) grown ∙ every_append (within 48 57) (take at field) (get_or field at 0 ∷ []) ∙ rw (d.all_digits, h) refl;
      small = rw (add-one at) (omega (arith, d.small, digit_few (get_or field at 0) h));
    }

middle_false : (a b c : Bool) → b ≡ false → (a && b && c) ≡ false
middle_false true b c e = rw e refl
middle_false false b c e = refl

-- what a field is told to be
told_none : (field : List ℕ) → is_number field ≡ false → None ≡ number_of field
unfolding number_of
told_none field e = rw e refl

pub told_empty : (field : List ℕ) → length field < 1 → None ≡ number_of field
unfolding is_number
told_empty field h = told_none field (rw (lt-leb 1 (length field) h) refl)

pub told_long : (field : List ℕ) → 3 < length field → None ≡ number_of field
unfolding is_number
told_long field h = told_none field (rw (le-leb 1 (length field) (omega arith), lt-leb (length field) 3 h) refl)

pub told_other : (field : List ℕ) (i : ℕ) → i < length field → within 48 57 (get_or field i 0) ≡ false → None ≡ number_of field
unfolding is_number
told_other field i h e = told_none field (middle_false (within 1 3 (length field)) (every (within 48 57) field) (leb (value_of field) 255) (every_not (within 48 57) field (member_at field i 0 h) e))

-- the value of a field of digits, where it fits a byte
pub told_value : {E : Type 0} (field : List ℕ) (value : ℕ) (r : Result ℕ E) → 1 ≤ length field → length field ≤ 3 → Digits field (length field) value
    → OkIff r (value < 256) value → result_ok r ≡ number_of field
unfolding number_of is_number
told_value field value (Ok x) h k d e =
    let value_is : value ≡ value_of field = d.value_is ∙ ap value_of (take_all (length field) field (omega arith)) in
    let digits : every (within 48 57) field ≡ true = ap (every (within 48 57)) (sym (take_all (length field) field (omega arith))) ∙ d.all_digits in
    rw (le-leb 1 (length field) h, le-leb (length field) 3 k, digits, le-leb (value_of field) 255 (omega (arith, value_is, e.0))) (ap Some (e.1 ∙ value_is))
told_value field value (Err f) h k d e =
    let value_is : value ≡ value_of field = d.value_is ∙ ap value_of (take_all (length field) field (omega arith)) in
    let digits : every (within 48 57) field ≡ true = ap (every (within 48 57)) (sym (take_all (length field) field (omega arith))) ∙ d.all_digits in
    let large : 255 < value_of field = omega (arith, value_is, e) in
    rw (le-leb 1 (length field) h, le-leb (length field) 3 k, digits, lt-leb (value_of field) 255 large) refl

-- a number has a digit
number_some : (field : List ℕ) → is_number field ≡ true → 1 ≤ length field
unfolding is_number
number_some [] e = absurd (true≢false (sym e))
number_some (x ∷ xs) e = omega arith

number_is : (field : List ℕ) (n : ℕ) → number_of field ≡ Some n → (is_number field ≡ true) × (value_of field ≡ n)
unfolding number_of
number_is field n e = go (is_number field) refl e
  where
    go : (t : Bool) → is_number field ≡ t → cond t (Some (value_of field)) None ≡ Some n → (is_number field ≡ true) × (value_of field ≡ n)
    go true f h = (f, cc)
    go false f h = cc

number_not : (field : List ℕ) → number_of field ≡ None → is_number field ≡ false
unfolding number_of
number_not field e = go (is_number field) refl e
  where
    go : (t : Bool) → is_number field ≡ t → cond t (Some (value_of field)) None ≡ None → is_number field ≡ false
    go true f h = cc
    go false f h = f

-- a line by its fields
pub line_none : (line word : List ℕ) → length line ≡ 0 → lines.letters (take 0 word) ≡ line_of line
unfolding line_of
line_none [] word h = refl
line_none (b ∷ bs) word h = absurd (omega arith)

line_some : (line : List ℕ) → 0 < length line → length line ≤ 255 → line_of line ≡ cond (every is_number (fields_of line)) (lines.letters (map value_of (fields_of line))) lines.unread
unfolding line_of
line_some [] h k = absurd (omega arith)
line_some (b ∷ bs) h k = rw (le-leb (length (b ∷ bs)) 255 k) refl

-- no field of an empty line is a number
pub word_none : (line word : List ℕ) → length line ≡ 0 → word ≡ word_after line word
unfolding fields_of fields_from first_values is_number
word_none [] word h = refl
word_none (b ∷ bs) word h = absurd (omega arith)

-- what has been read of a line: its first fields are numbers, and their letters stand in the buffer, which held others before
pub record Read (line word₀ word : List ℕ) (letters : ℕ) : Type 0 where
  pub numbers : every is_number (fields_of line) ≡ every is_number (drop letters (fields_of line))
  pub values : map value_of (fields_of line) ≡ take letters word ++ map value_of (drop letters (fields_of line))
  pub first : first_values (fields_of line) ≡ take letters word ++ first_values (drop letters (fields_of line))
  pub kept : drop letters word ≡ drop letters word₀
  pub long : length word ≡ 128
  pub few : 2 * letters + span (drop letters (fields_of line)) ≤ length line + 1

pub read_none : (line word : List ℕ) → length word ≡ 128 → Read line word word 0
read_none line word l = record { numbers = refl; values = refl; first = refl; kept = refl; long = l; few = omega (arith, span_line line) }

-- where a part stands among the fields
pub next_field : (line field : List ℕ) (letters n : ℕ) → letters ≡ n → (n < length (parts line)) × (field ≡ get_or (parts line) n field)
    → (letters < length (fields_of line)) × (field ≡ get_or (fields_of line) letters field)
next_field line field letters n e h = rw (e, ← fields_parts line) h

-- the buffer is these letters and what it held before
word_is : (line word₀ word : List ℕ) (letters : ℕ) → letters ≤ length word → first_values (fields_of line) ≡ take letters word → drop letters word ≡ drop letters word₀ → word ≡ word_after line word₀
word_is line word₀ word letters h e k =
    sym (take-append-drop letters word) ∙ rw (e, length-take-le letters word h) (ap (λ (l : List ℕ). take letters word ++ l) k)

module _ (line word₀ word : List ℕ) (letters : ℕ) (short : length line ≤ 255) (done : Read line word₀ word letters) where
  -- all fields are numbers
  module _ (end : letters ≡ length (fields_of line)) where
    none : drop letters (fields_of line) ≡ []
    none = ap (λ (n : ℕ). drop n (fields_of line)) end ∙ drop-length (fields_of line)

    pub few_letters : letters ≤ 128
    few_letters = omega (arith, done.few)

    pub line_read : 0 < length line → lines.letters (take letters word) ≡ line_of line
    line_read h =
        let numbers : every is_number (fields_of line) ≡ true = done.numbers ∙ ap (every is_number) none in
        let values : map value_of (fields_of line) ≡ take letters word = done.values ∙ ap (λ fs. take letters word ++ map value_of fs) none ∙ append-nil (take letters word) in
        sym (line_some line h short ∙ rw (numbers, values) refl)

    pub word_read : word ≡ word_after line word₀
    unfolding first_values
    word_read = word_is line word₀ word letters (omega (arith, few_letters, done.long)) (done.first ∙ ap (λ fs. take letters word ++ first_values fs) none ∙ append-nil (take letters word)) done.kept

  -- the next field
  module _ (field : List ℕ) (next : (letters < length (fields_of line)) × (field ≡ get_or (fields_of line) letters field)) where
    here : drop letters (fields_of line) ≡ field ∷ drop (letters + 1) (fields_of line)
    here = drop-cons (fields_of line) letters field next.0 ∙ rw (← next.1, add-one letters) refl

    -- is no number
    module _ (bad : number_of field ≡ None) where
      pub line_unread : 0 < length line → lines.unread ≡ line_of line
      line_unread h =
          let none : every is_number (fields_of line) ≡ false = done.numbers ∙ ap (every is_number) here ∙ rw (number_not field bad) refl in
          sym (line_some line h short ∙ rw none refl)

      pub word_unread : word ≡ word_after line word₀
      unfolding first_values span
      word_unread =
          word_is line word₀ word letters (omega (arith, done.few, ap span here, done.long))
          (done.first ∙ ap (λ fs. take letters word ++ first_values fs) here ∙ rw (number_not field bad) (append-nil (take letters word))) done.kept

    -- or one
    module _ (value : ℕ) (good : number_of field ≡ Some value) where
      pub letter_room : letters < length word
      unfolding span
      letter_room = omega (arith, done.few, done.long, ap span here, number_some field (number_is field value good).0)

      put : take (letters + 1) (set word letters value) ≡ take letters word ++ (value_of field ∷ [])
      put = ap (λ (n : ℕ). take n (set word letters value)) (add-one letters)
          ∙ take-suc-set word letters value letter_room
          ∙ ap (λ (v : ℕ). take letters word ++ (v ∷ [])) (sym (number_is field value good).1)

      pub read_more : Read line word₀ (set word letters value) (letters + 1)
      unfolding first_values span
      read_more =
          let number = (number_is field value good).0 in
          record {
            numbers = done.numbers ∙ ap (every is_number) here ∙ rw number refl;
            values = done.values ∙ ap (λ fs. take letters word ++ map value_of fs) here
                ∙ rw put (sym (append_assoc (take letters word) (value_of field ∷ []) (map value_of (drop (letters + 1) (fields_of line)))));
            first = done.first ∙ ap (λ fs. take letters word ++ first_values fs) here
                ∙ rw (number, put) (sym (append_assoc (take letters word) (value_of field ∷ []) (first_values (drop (letters + 1) (fields_of line)))));
            kept = drop-set-lt (letters + 1) word letters value (omega arith) ∙ sym (drop-drop 1 letters word) ∙ ap (drop 1) done.kept ∙ drop-drop 1 letters word₀;
            long = length-set word letters value ∙ done.long;
            few = omega (arith, done.few, ap span here, number_some field number);
          }
