-- Reading the index of an accepted image: which byte says what, and that it is within its bounds.
use Prim.Native.Nat.{ℕ, suc, ◌+◌, ◌*◌, ◌/◌, ◌%◌, ◌<◌, ◌≤◌}
use native.Mathlib.Omega.{arith}
use mathlib.Core.Bool.{Bool, true, false, ◌||◌}
use mathlib.Core.Path.{◌≡◌, refl, sym, ap, ap₂, ◌∙◌}
use mathlib.Core.Logic.{◌⊎◌, inl, inr}
use mathlib.Core.List.Memᴰ
use mathlib.Core.List.{List, [], ◌∷◌, ◌++◌, append_assoc, append-nil, Memᴰ}
use lib.ListN.{length, get_or, drop, replicate, length-append, get_or-append}
use lib.Seq.{get_or-take, get_or-drop, get_or-append-add}
use lib.Dec.{leb, eqb}
use borrow.Author.Tests.{lt-ltb, le-leb}
use Rattle.model.specs.Lists.{below, given, flat_map, is_zero, byte, number, number_bytes}
use Rattle.model.specs.Blocks.{Header, header}
use Rattle.model.specs.RuleTables.{pairs, boundary_pair, columns_of}
use Rattle.model.specs.Lexicon.{first_entry}
use Rattle.model.proofs.Lists.{member_at, length_below, get_d_below, below_from}
use Rattle.model.proofs.Parts.{length_parts, part_at}
use Rattle.model.proofs.Sealing.{number_back}
use Rattle.tables.proofs.Laws.{length_columns_of}
use Rattle.tables.proofs.Rows.{length_index_row, length_column_row, columns_part}
use Rattle.image.specs.Laid.{Laid}
use Rattle.image.specs.Accepted.{Accepted}
use Rattle.image.specs.Index.{only, index_row, column_row, candidates, candidate_row, rule_rows, lexicon_row, index_of}

-- the count of rules that a header tells is the image's
pub laid_rules : {image : List ℕ} {h : Header} → Laid image h → h.rules ≡ (header image).rules
laid_rules l = ap (λ (k : Header). k.rules) l.header_is

-- rows of the index
pub row_byte : (xs : List ℕ) (i : ℕ) → i < 256 → i < length xs → byte (index_row xs) i ≡ get_or xs i 0
unfolding index_row
row_byte xs i h k = get_or-take 256 (xs ++ replicate 256 0) i 0 h ∙ get_or-append xs (replicate 256 0) 0 i k

-- byte i of part k of lists of one width, joined
pub joined_byte : (w : ℕ) (f : ℕ → List ℕ) (n : ℕ) (rest : List ℕ) → ((k : ℕ) → length (f k) ≡ w) → (k i : ℕ) → k < n → i < w → byte (flat_map f (below n) ++ rest) (w * k + i) ≡ byte (f k) i
joined_byte w f n rest wide k i h l =
    let all = flat_map f (below n) ++ rest in
    sym (get_or-take w (drop (w * k) all) i 0 l ∙ get_or-drop (w * k) all i 0)
    ∙ ap (λ (xs : List ℕ). byte xs i) (part_at w f (below n) (λ j m. wide j) rest k 0 (omega (arith, length_below n)) ∙ ap f (get_d_below n k h))

module _ (image : List ℕ) where
  pub length_candidate_row : (a : ℕ) → length (candidate_row image a) ≡ 256
  unfolding candidate_row
  length_candidate_row a = length_index_row (given (leb a (header image).letters) (length (candidates image a) ∷ candidates image a))

  pub candidates_part : length (flat_map (candidate_row image) (below 121)) ≡ 30976
  candidates_part = length_parts 256 (candidate_row image) (below 121) (λ a m. length_candidate_row a) ∙ ap (λ (n : ℕ). 256 * n) (length_below 121)

  pub all_rows : (rest : List ℕ) → rest ≡ flat_map (candidate_row image) (below 121) ++ lexicon_row image → flat_map (column_row image) (below 32) ++ rest ≡ index_of image
  unfolding index_of rule_rows
  all_rows rest e =
      let columns = flat_map (column_row image) (below 32) in
      ap (λ (l : List ℕ). columns ++ l) e ∙ sym (append_assoc columns (flat_map (candidate_row image) (below 121)) (lexicon_row image))

  pub length_rule_rows : length (rule_rows image) ≡ 39168
  unfolding rule_rows
  length_rule_rows = omega (arith, length-append (flat_map (column_row image) (below 32)) (flat_map (candidate_row image) (below 121)), columns_part image, candidates_part)

  length_lexicon_row : length (lexicon_row image) ≡ 256
  unfolding lexicon_row
  length_lexicon_row = length_index_row (flat_map (λ x. number_bytes (first_entry image x)) (below ((header image).lexicons + 1)))

  pub length_index_of : length (index_of image) ≡ 39424
  unfolding index_of
  length_index_of = omega (arith, length-append (rule_rows image) (lexicon_row image), length_rule_rows, length_lexicon_row)

  -- the rows of the rules and the pairs come first
  rule_byte : (i : ℕ) → i < 39168 → byte (index_of image) i ≡ byte (rule_rows image) i
  unfolding index_of
  rule_byte i h = get_or-append (rule_rows image) (lexicon_row image) 0 i (omega (arith, length_rule_rows))

  lexicon_byte : (i : ℕ) → byte (index_of image) (39168 + i) ≡ byte (lexicon_row image) i
  unfolding index_of
  lexicon_byte i = ap (λ (n : ℕ). byte (rule_rows image ++ lexicon_row image) (n + i)) (sym length_rule_rows) ∙ get_or-append-add (rule_rows image) (lexicon_row image) i 0

  -- byte 256 * r + p is the column that rule r takes for pair p
  pub index_column : (r p : ℕ) → r < (header image).rules → r < 32 → p ≤ (header image).pairs → p < 256 → byte (index_of image) (256 * r + p) ≡ get_or (columns_of image r) p 0
  unfolding rule_rows column_row
  index_column r p h k l m =
      rule_byte (256 * r + p) (omega arith)
      ∙ joined_byte 256 (column_row image) 32 (flat_map (candidate_row image) (below 121)) (length_column_row image) r p k m
      ∙ ap (λ (b : Bool). byte (index_row (given b (columns_of image r))) p) (lt-ltb r (header image).rules h)
      ∙ row_byte (columns_of image r) p m (omega (arith, length_columns_of image r))

  -- the row of lexical letter a
  index_candidates : (a i : ℕ) → a ≤ (header image).letters → a < 121 → i < 256 → i ≤ length (candidates image a) → byte (index_of image) (256 * (32 + a) + i) ≡ get_or (length (candidates image a) ∷ candidates image a) i 0
  unfolding rule_rows candidate_row
  index_candidates a i h k l m =
      let columns = flat_map (column_row image) (below 32) in
      let rows = flat_map (candidate_row image) (below 121) in
      rule_byte (256 * (32 + a) + i) (omega arith)
      ∙ ap (byte (columns ++ rows)) (omega (arith, columns_part image))
      ∙ get_or-append-add columns rows (256 * a + i) 0
      ∙ ap (λ (xs : List ℕ). byte xs (256 * a + i)) (sym (append_none rows))
      ∙ joined_byte 256 (candidate_row image) 121 [] length_candidate_row a i k l
      ∙ ap (λ (b : Bool). byte (index_row (given b (length (candidates image a) ∷ candidates image a))) i) (le-leb a (header image).letters h)
      ∙ row_byte (length (candidates image a) ∷ candidates image a) i l (omega arith)
    where
      append_none : (xs : List ℕ) → xs ++ [] ≡ xs
      append_none [] = refl
      append_none (x ∷ xs) = ap {B = List ℕ} (λ l. x ∷ l) (append_none xs)

-- those that pass are some of the list
only_from : {A : Type 0} (f : A → Bool) (xs : List A) {x : A} → Memᴰ x (only f xs) → Memᴰ x xs
only_from f [] m = m
only_from {A} f (y ∷ xs) {x} m = go (f y) (Memᴰ.append_cases (given (f y) (y ∷ [])) m) (λ k. only_from f xs k)
  where
    go : (b : Bool) → Memᴰ x (given b (y ∷ [])) ⊎ Memᴰ x (only f xs) → (Memᴰ x (only f xs) → Memᴰ x xs) → Memᴰ x (y ∷ xs)
    go true (inl k) r = Memᴰ.head (Memᴰ.eq_of_singleton k)
    go false (inl k) r = absurd (Memᴰ.not-nil k)
    go b (inr k) r = Memᴰ.tail (r k)

length_only : {A : Type 0} (f : A → Bool) (xs : List A) → length (only f xs) ≤ length xs
length_only f [] = omega arith
length_only {A} f (x ∷ xs) = go (f x) (length_only f xs)
  where
    go : (b : Bool) → length (only f xs) ≤ length xs → length (given b (x ∷ []) ++ only f xs) ≤ suc (length xs)
    go true h = omega arith
    go false h = omega arith

module _ (image : List ℕ) (a : ℕ) where
  pub candidate_below : {p : ℕ} → Memᴰ p (candidates image a) → p < (header image).pairs
  unfolding candidates
  candidate_below {p} m = below_from (header image).pairs p (only_from (λ p. let x = (get_or (pairs image) p boundary_pair).lexical in is_zero x || eqb x a) (below (header image).pairs) m)

  pub candidate_at : (i : ℕ) → i < length (candidates image a) → get_or (candidates image a) i 0 < (header image).pairs
  candidate_at i h = candidate_below (member_at (candidates image a) i 0 h)

  pub candidates_most : length (candidates image a) ≤ (header image).pairs
  unfolding candidates
  candidates_most = omega (arith, length_only (λ p. let x = (get_or (pairs image) p boundary_pair).lexical in is_zero x || eqb x a) (below (header image).pairs), length_below (header image).pairs)

-- an accepted image
module _ {image : List ℕ} (ok : Accepted image (header image)) where
  -- the column that rule r takes for pair p is byte 256 * r + p of the index
  pub column_byte_lem : (r p : ℕ) → r < (header image).rules → p ≤ (header image).pairs → byte (index_of image) (256 * r + p) ≡ get_or (columns_of image r) p 0
  column_byte_lem r p h k = index_column image r p h (omega (arith, ok.laid.limits.rules_most)) k (omega (arith, ok.laid.limits.pairs_most))

  -- row 32 + a of the index begins with the number of candidates of letter a, and then has them
  pub candidate_count : (a : ℕ) → a ≤ (header image).letters → byte (index_of image) (256 * (32 + a)) ≡ length (candidates image a)
  candidate_count a h =
      ap (byte (index_of image)) (omega arith)
      ∙ index_candidates image a 0 h (omega (arith, ok.laid.limits.letters_most)) (omega arith) (omega arith)

  pub candidate_byte : (a i : ℕ) → a ≤ (header image).letters → i < length (candidates image a) → byte (index_of image) (256 * (32 + a) + 1 + i) ≡ get_or (candidates image a) i 0
  candidate_byte a i h k =
      let m = candidates_most image a in
      ap (byte (index_of image)) (omega arith)
      ∙ index_candidates image a (suc i) h (omega (arith, ok.laid.limits.letters_most)) (omega (arith, ok.laid.limits.pairs_most)) (omega arith)

  -- row 153 has where each lexicon begins
  pub lexicon_number : (x : ℕ) → x ≤ (header image).lexicons → first_entry image x < 65536 → number (index_of image) (39168 + 2 * x) ≡ first_entry image x
  unfolding lexicon_row
  lexicon_number x h k =
      let row = flat_map (λ x. number_bytes (first_entry image x)) (below ((header image).lexicons + 1)) in
      let few = ok.laid.limits.lexicons_most in
      let long : length row ≡ 2 * ((header image).lexicons + 1) = length_parts 2 (λ x. number_bytes (first_entry image x)) (below ((header image).lexicons + 1)) (λ y m. refl) ∙ ap (λ (n : ℕ). 2 * n) (length_below ((header image).lexicons + 1)) in
      let at : (i : ℕ) → i < 2 → byte (index_of image) (39168 + (2 * x + i)) ≡ byte (number_bytes (first_entry image x)) i =
      λ i l.
      lexicon_byte image (2 * x + i)
      ∙ row_byte row (2 * x + i) (omega arith) (omega arith)
      ∙ ap (λ (xs : List ℕ). byte xs (2 * x + i)) (sym (append-nil row))
      ∙ joined_byte 2 (λ x. number_bytes (first_entry image x)) ((header image).lexicons + 1) [] (λ y. refl) x i (omega arith) l in
      let lo : byte (index_of image) (39168 + 2 * x) ≡ first_entry image x % 256 = ap (byte (index_of image)) (omega arith) ∙ at 0 (omega arith) in
      let hi : byte (index_of image) (39168 + 2 * x + 1) ≡ first_entry image x / 256 % 256 = ap (byte (index_of image)) (omega arith) ∙ at 1 (omega arith) in
      ap₂ (λ (a b : ℕ). a + 256 * b) lo hi ∙ number_back (first_entry image x) k
