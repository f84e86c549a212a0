-- Two images that say the same in two forms: their grammars are alike, and the tests from 4 on answer the same.
use Prim.Native.Nat.{ℕ, ◌+◌, ◌<◌, ◌≤◌}
use native.Mathlib.Omega.{arith}
use mathlib.Core.Bool.{Bool, ◌&&◌, ◌||◌}
use mathlib.Core.Path.{◌≡◌, refl, ap, ap₂, ◌∙◌}
use mathlib.Core.List.{List, [], ◌∷◌, ◌++◌, map, Memᴰ}
use lib.ListN.{get_or}
use lib.Dec.{leb, ltb, eqb}
use Rattle.model.specs.Lists.{below, every, any, distinct, sum, byte, number}
use Rattle.model.specs.Blocks.{header, kinds, in_all, record_at}
use Rattle.model.specs.RuleTables.{Pair, pair, pairs, letter_sets, code_points, pairs_and_boundary, boundary_pair, table, column_count}
use Rattle.model.specs.RuleTables.{column_for, columns_of, next_state, is_final, is_code_point, is_pair, same_pair, is_set, is_table}
use Rattle.model.specs.Lexicon.{entry_count, first_entry, in_lexicon, entry, form_of, may_stop, goes_to}
use Rattle.model.specs.GrammarOf.{grammar_of}
use Rattle.model.specs.Refusals.{right_letters, right_pairs, right_tables, right_columns, is_lexical, right_forms}
use Rattle.model.proofs.Lists.{below_from, map_same, every_same}
use Rattle.alike.specs.Alike.{Alike}

-- the forms apart, all that tests and grammars are made of is the same
pub record Counterpart (image other : List ℕ) : Type 0 where
  pub letters : (header image).letters ≡ (header other).letters
  pub pairs : (header image).pairs ≡ (header other).pairs
  pub rules : (header image).rules ≡ (header other).rules
  pub lexicons : (header image).lexicons ≡ (header other).lexicons
  pub entries : (header image).entries ≡ (header other).entries
  pub sets : (header image).sets ≡ (header other).sets
  pub records : (kind i : ℕ) → (kind ≡ 1 → ⊥) → (kind ≡ 6 → ⊥) → i < in_all (header image) kind → record_at image kind i ≡ record_at other kind i
  pub lexicons_least : 1 ≤ (header image).lexicons
  pub lexicons_most : (header image).lexicons ≤ 64
  pub forms : (e : ℕ) → e < (header image).entries → form_of (entry image e) ≡ form_of (entry other e)
  pub stops : (e : ℕ) → e < (header image).entries → may_stop (entry image e) (header image).form ≡ may_stop (entry other e) (header other).form
  pub goes : (e : ℕ) → e < (header image).entries → (x : ℕ) → x < 64 → goes_to (entry image e) (header image).form x ≡ goes_to (entry other e) (header other).form x

mapped : {A : Type 0} (f h : ℕ → A) (n m : ℕ) → n ≡ m → ((i : ℕ) → i < n → f i ≡ h i) → map f (below n) ≡ map h (below m)
mapped {A} f h n m e same = map_same f h (below n) (λ i k. same i (below_from n i k)) ∙ ap (λ (n : ℕ). map h (below n)) e

tested : (f h : ℕ → Bool) (n m : ℕ) → n ≡ m → ((i : ℕ) → i < n → f i ≡ h i) → every f (below n) ≡ every h (below m)
tested f h n m e same = every_same f h (below n) (λ i k. same i (below_from n i k)) ∙ ap (λ (n : ℕ). every h (below n)) e

any_same : (f h : ℕ → Bool) (xs : List ℕ) → ((x : ℕ) → Memᴰ x xs → f x ≡ h x) → any f xs ≡ any h xs
any_same f h [] e = refl
any_same f h (x ∷ xs) e = ap₂ (λ (a b : Bool). a || b) (e x (Memᴰ.head refl)) (any_same f h xs (λ y m. e y (Memᴰ.tail m)))

module _ {image other : List ℕ} (c : Counterpart image other) where
  code_points_lem : code_points image ≡ code_points other
  unfolding code_points kinds
  code_points_lem = mapped (λ i. number (record_at image 2 i) 0) (λ i. number (record_at other 2 i) 0) (header image).letters (header other).letters c.letters
      (λ i l. ap (λ (r : List ℕ). number r 0) (c.records 2 i (λ e. omega arith) (λ e. omega arith) l))

  pairs_same : pairs image ≡ pairs other
  unfolding pairs kinds
  pairs_same =
      mapped (pair image) (pair other) (header image).pairs (header other).pairs c.pairs
      (λ p l. ap {B = Pair} (λ (r : List ℕ). record { lexical = byte r 0; surface = byte r 1 }) (c.records 3 p (λ e. omega arith) (λ e. omega arith) l))

  sets_same : letter_sets image ≡ letter_sets other
  unfolding letter_sets kinds
  sets_same = mapped (record_at image 7) (record_at other 7) (header image).sets (header other).sets c.sets (λ i l. c.records 7 i (λ e. omega arith) (λ e. omega arith) l)

  table_same : (r : ℕ) → r < (header image).rules → table image r ≡ table other r
  unfolding kinds
  table_same r l = c.records 4 r (λ e. omega arith) (λ e. omega arith) l

  with_boundary : pairs_and_boundary image ≡ pairs_and_boundary other
  unfolding pairs_and_boundary
  with_boundary = ap (λ (ps : List Pair). ps ++ (boundary_pair ∷ [])) pairs_same

  columns_same : (r : ℕ) → r < (header image).rules → columns_of image r ≡ columns_of other r
  unfolding columns_of
  columns_same r l = let t = table_same r l in λ i. map (column_for (sets_same i) (with_boundary i) (t i)) (with_boundary i)

  tables_all : map (table image) (below (header image).rules) ≡ map (table other) (below (header other).rules)
  tables_all = mapped (table image) (table other) (header image).rules (header other).rules c.rules table_same

  columns_all : map (columns_of image) (below (header image).rules) ≡ map (columns_of other) (below (header other).rules)
  columns_all = mapped (columns_of image) (columns_of other) (header image).rules (header other).rules c.rules columns_same

  count_same : (x : ℕ) → x < (header image).lexicons → entry_count image x ≡ entry_count other x
  unfolding entry_count kinds
  count_same x l = ap (λ (r : List ℕ). number r 0) (c.records 5 x (λ e. omega arith) (λ e. omega arith) l)

  first_same : (x : ℕ) → x ≤ (header image).lexicons → first_entry image x ≡ first_entry other x
  unfolding first_entry
  first_same x l = ap sum (mapped (entry_count image) (entry_count other) x x refl (λ y k. count_same y (omega arith)))

  lexicon_same : (x : ℕ) → x < (header image).lexicons → (e : ℕ) → in_lexicon image x e ≡ in_lexicon other x e
  unfolding in_lexicon
  lexicon_same x l e = ap₂ (λ (a b : ℕ). leb a e && ltb e (a + b)) (first_same x (omega arith)) (count_same x l)

  follows_same : (e f : ℕ) → e < (header image).entries → (grammar_of image).follows e f ≡ (grammar_of other).follows e f
  unfolding grammar_of
  follows_same e f l =
      any_same (λ x. goes_to (entry image e) (header image).form x && in_lexicon image x f) (λ x. goes_to (entry other e) (header other).form x && in_lexicon other x f)
      (below (header image).lexicons)
      (λ x m. let k = below_from (header image).lexicons x m in ap₂ (λ (a b : Bool). a && b) (c.goes e l x (omega (arith, c.lexicons_most))) (lexicon_same x k f))
      ∙ ap (λ (n : ℕ). any (λ x. goes_to (entry other e) (header other).form x && in_lexicon other x f) (below n)) c.lexicons

  -- "Both forms share one account of what a reading is"
  pub counterpart_alike : Alike (grammar_of image) (grammar_of other)
  unfolding grammar_of
  counterpart_alike = record {
    pairs = c.pairs;
    lexical = λ p l. ap (λ (ps : List Pair). (get_or ps p boundary_pair).lexical) pairs_same;
    surface = λ p l. ap (λ (ps : List Pair). (get_or ps p boundary_pair).surface) pairs_same;
    spoken = λ p l. ap (λ (ps : List Pair). (get_or ps p boundary_pair).surface) pairs_same;
    rules = c.rules;
    next = λ r l s p k. λ i. next_state (get_or (tables_all i) r []) s (get_or (get_or (columns_all i) r []) p 0);
    final = λ r l s. ap (λ (ts : List (List ℕ)). is_final (get_or ts r []) s) tables_all;
    entries = c.entries;
    form = c.forms;
    begins = λ e l. lexicon_same 0 c.lexicons_least e;
    follows = λ e f l k. follows_same e f l;
    ends = c.stops;
  }

  -- the tests
  pub letters_test : right_letters image ≡ right_letters other
  unfolding right_letters
  letters_test = ap (λ (ps : List ℕ). every is_code_point ps && distinct eqb ps) code_points_lem

  pub pairs_test : right_pairs image ≡ right_pairs other
  unfolding right_pairs
  pairs_test = ap₂ (λ (n : ℕ) (ps : List Pair). every (is_pair n) ps && distinct same_pair ps) c.letters pairs_same

  pub tables_test : right_tables image ≡ right_tables other
  unfolding right_tables
  tables_test =
      ap₂ (λ (a b : Bool). a && b)
      (ap₂ (λ (n : ℕ) (ss : List (List ℕ)). every (is_set n) ss) c.letters sets_same)
      (tested (λ r. is_table (table image r) (header image).letters (header image).sets) (λ r. is_table (table other r) (header other).letters (header other).sets) (header image).rules
      (header other).rules c.rules
      (λ r l. let t = table_same r l in λ i. is_table (t i) (c.letters i) (c.sets i)))

  pub columns_test : right_columns image ≡ right_columns other
  unfolding right_columns
  columns_test =
      tested (λ r. every (λ n. ltb n (column_count (table image r))) (columns_of image r)) (λ r. every (λ n. ltb n (column_count (table other r))) (columns_of other r)) (header image).rules
      (header other).rules c.rules
      (λ r l. ap₂ (λ (t ns : List ℕ). every (λ n. ltb n (column_count t)) ns) (table_same r l) (columns_same r l))

  pub sum_same : sum (map (entry_count image) (below (header image).lexicons)) ≡ sum (map (entry_count other) (below (header other).lexicons))
  sum_same = ap sum (mapped (entry_count image) (entry_count other) (header image).lexicons (header other).lexicons c.lexicons count_same)

  lexical_same : (a : ℕ) → is_lexical image a ≡ is_lexical other a
  unfolding is_lexical
  lexical_same a = ap (any (λ p. eqb p.lexical a)) pairs_same

  pub forms_test : right_forms image ≡ right_forms other
  unfolding right_forms
  forms_test =
      tested (λ e. every (is_lexical image) (form_of (entry image e))) (λ e. every (is_lexical other) (form_of (entry other e))) (header image).entries (header other).entries c.entries
      (λ e l. every_same (is_lexical image) (is_lexical other) (form_of (entry image e)) (λ a m. lexical_same a) ∙ ap (every (is_lexical other)) (c.forms e l))
