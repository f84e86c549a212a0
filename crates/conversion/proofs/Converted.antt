-- The converted image: it says the same in the other form, its readings are those of the image, and it is accepted.
use Prim.Native.Nat.{ℕ, ◌+◌, ◌-◌, ◌<◌, ◌≤◌}
use native.Mathlib.Omega.{arith}
use native.Mathlib.Decide.{dec_lt, ℕ_discrete}
use mathlib.Core.Bool.{Bool, true, false, ◌&&◌, ◌||◌, not, cond}
use mathlib.Core.Path.{◌≡◌, refl, sym, ap, ap₂, ◌∙◌, subst}
use mathlib.Core.Logic.{◌⊎◌, inl, inr}
use mathlib.Core.List.{List, [], ◌∷◌, map}
use lib.ListN.{length, take, drop}
use lib.Dec.{T, leb, eqb, leb→le}
use borrow.Author.Tests.{eqb-true, eq-eqb, ne_eqb}
use Rattle.model.specs.Lists.{below, every, sum, within, is_zero}
use Rattle.model.specs.Blocks.{Header, Kind, header, kinds, row_of, entry_width, in_all, record_width, record_at, block_count, block_total, block, laid_out, within_limits}
use Rattle.model.specs.Lexicon.{entry_count, entry, form_length, form_of, may_stop, goes_to, right_ways, way_count, is_entry_of, is_entry}
use Rattle.model.specs.Query.{Request, query_of}
use Rattle.model.specs.Calls.{all_readings}
use Rattle.model.specs.Refusals.{accepted, right_length, right_checks, right_layout, right_letters}
use Rattle.model.specs.Refusals.{right_pairs, right_tables, right_columns, right_entries, right_forms, format_tests, image_tests, image_verdict}
use Rattle.model.proofs.Booleans.{and_out, and_in, in4, out4, true_of, of_true, within_in, eq→eqb}
use Rattle.model.proofs.Lists.{below_has, below_from, every_at, every_in}
use Rattle.model.proofs.Tests.{passed}
use Rattle.image.specs.Laid.{Limited, Laid}
use Rattle.image.specs.Kinds.{IsKind}
use Rattle.image.proofs.Records.{record_length, counted}
use Rattle.layout.proofs.Laid.{limits_kept, laid}
use Rattle.alike.proofs.Alike.{alike_readings}
use Rattle.built.specs.Built.{header_bytes, Sized}
use Rattle.built.proofs.Built.{built_count, built_length, built_checks, built_laid, built_record, built_header}
use Rattle.conversion.specs.Conversion.{other_entry, other_header, other_records, converted_image, one_ways}
use Rattle.conversion.proofs.Entries.{same_form, same_entry, many_front, many_long, many_stop, many_goes, many_right, one_front, one_long, one_stop, one_goes, one_right}
use Rattle.conversion.proofs.Counterpart.{Counterpart, counterpart_alike, letters_test, pairs_test, tables_test, columns_test, forms_test, sum_same}

-- every test of the image check, passed
pub record Passing (image : List ℕ) : Type 0 where
  pub length_right_lem : right_length image ≡ true
  pub checks_right : right_checks image ≡ true
  pub layout_right : right_layout image ≡ true
  pub letters_right : right_letters image ≡ true
  pub pairs_right : right_pairs image ≡ true
  pub tables_right : right_tables image ≡ true
  pub columns_right : right_columns image ≡ true
  pub entries_right : right_entries image ≡ true
  pub forms_right : right_forms image ≡ true

pub passing_of : (image : List ℕ) → image_verdict image ≡ accepted → Passing image
unfolding image_verdict image_tests format_tests
passing_of image e =
    let a = passed (right_length image) 1 _ e in
    let b = passed (right_checks image) 2 _ a.1 in
    let c = passed (right_layout image) 3 _ b.1 in
    let d = passed (right_letters image) 4 _ c.1 in
    let f = passed (right_pairs image) 5 _ d.1 in
    let g = passed (right_tables image) 6 _ f.1 in
    let h = passed (right_columns image) 7 _ g.1 in
    let i = passed (right_entries image) 8 _ h.1 in
    let j = passed (right_forms image) 14 _ i.1 in
    record {
      length_right_lem = a.0;
      checks_right = b.0;
      layout_right = c.0;
      letters_right = d.0;
      pairs_right = f.0;
      tables_right = g.0;
      columns_right = h.0;
      entries_right = i.0;
      forms_right = j.0;
    }

pub passing_to : (image : List ℕ) → Passing image → image_verdict image ≡ accepted
unfolding image_verdict image_tests format_tests
passing_to image p = rw (p.length_right_lem, p.checks_right, p.layout_right, p.letters_right, p.pairs_right, p.tables_right, p.columns_right, p.entries_right, p.forms_right) refl

-- what stays of an entry, by the form that it has
pub record Kept (form lexicons : ℕ) (e : List ℕ) : Type 0 where
  pub front : take 13 e ≡ take 13 (other_entry form e)
  pub long : length (other_entry form e) ≡ entry_width (3 - form)
  pub stop : may_stop e form ≡ may_stop (other_entry form e) (3 - form)
  pub goes : (x : ℕ) → x < 64 → goes_to e form x ≡ goes_to (other_entry form e) (3 - form) x
  pub right : T (right_ways (other_entry form e) (3 - form) lexicons)

abbrev Keeps : ℕ → ℕ → List ℕ → Type 0
Keeps lexicons form e = length e ≡ entry_width form → T (right_ways e form lexicons) → (form ≡ 2 → way_count e 2 ≤ 1) → Kept form lexicons e

kept : (form lexicons : ℕ) → (form ≡ 1) ⊎ (form ≡ 2) → lexicons ≤ 64 → (e : List ℕ) → Keeps lexicons form e
kept form lexicons (inl is) few e =
    subst (λ (f : ℕ). Keeps lexicons f e) (sym is)
    (λ long right one. record { front = many_front e long; long = many_long e long; stop = many_stop e long; goes = many_goes e long; right = many_right e long lexicons few right })
kept form lexicons (inr is) few e =
    subst (λ (f : ℕ). Keeps lexicons f e) (sym is)
    (λ long right one. record {
      front = one_front e long;
      long = one_long e long;
      stop = one_stop e long lexicons right (one refl);
      goes = one_goes e long lexicons right (one refl);
      right = one_right e long lexicons right (one refl);
    })

-- the tables of kinds of the two forms: other blocks and another width for the entries, and nothing else
abbrev SameRows : List Kind → List Kind → Type 0
SameRows [] [] = Unit {0}
SameRows [] (s ∷ ss) = ⊥
SameRows (r ∷ rs) [] = ⊥
SameRows (r ∷ rs) (s ∷ ss) = (r.kind ≡ s.kind) × ((r.in_all ≡ s.in_all) × (((r.kind ≡ 6 → ⊥) → r.width ≡ s.width) × SameRows rs ss))

row_stays : {kind all wide : ℕ} {N X : Type 0} → X → (kind ≡ kind) × ((all ≡ all) × ((N → wide ≡ wide) × X))
row_stays t = (refl, (refl, (λ n. refl, t)))

rows_all : (rs ss : List Kind) → SameRows rs ss → (kind : ℕ) → (row_of kind rs).in_all ≡ (row_of kind ss).in_all
rows_all [] [] t kind = refl
rows_all [] (s ∷ ss) t kind = absurd t
rows_all (r ∷ rs) [] t kind = absurd t
rows_all (r ∷ rs) (s ∷ ss) t kind = ap (λ (k : ℕ). (cond (eqb k kind) r (row_of kind rs)).in_all) t.0 ∙ go (eqb s.kind kind) (rows_all rs ss t.1.1.1 kind)
  where
    go : (b : Bool) → (row_of kind rs).in_all ≡ (row_of kind ss).in_all → (cond b r (row_of kind rs)).in_all ≡ (cond b s (row_of kind ss)).in_all
    go true e = t.1.0
    go false e = e

rows_wide : (rs ss : List Kind) → SameRows rs ss → (kind : ℕ) → (kind ≡ 6 → ⊥) → (row_of kind rs).width ≡ (row_of kind ss).width
rows_wide [] [] t kind n = refl
rows_wide [] (s ∷ ss) t kind n = absurd t
rows_wide (r ∷ rs) [] t kind n = absurd t
rows_wide (r ∷ rs) (s ∷ ss) t kind n = ap (λ (k : ℕ). (cond (eqb k kind) r (row_of kind rs)).width) t.0 ∙ go (eqb s.kind kind) refl (rows_wide rs ss t.1.1.1 kind n)
  where
    go : (b : Bool) → eqb s.kind kind ≡ b → (row_of kind rs).width ≡ (row_of kind ss).width → (cond b r (row_of kind rs)).width ≡ (cond b s (row_of kind ss)).width
    go true d e = t.1.1.0 (λ six. n (sym (eqb-true s.kind kind d) ∙ sym t.0 ∙ six))
    go false d e = e

abbrev Others : ℕ → List Kind → Type 0
Others kind [] = Unit {0}
Others kind (r ∷ rs) = (r.kind ≡ kind → ⊥) × Others kind rs

rows_none : (kind : ℕ) (rs : List Kind) → Others kind rs → (row_of kind rs).in_all ≡ 0
rows_none kind [] t = refl
rows_none kind (r ∷ rs) t = ap (λ (b : Bool). (cond b r (row_of kind rs)).in_all) (ne_eqb r.kind kind t.0) ∙ rows_none kind rs t.1

module _ (h : Header) where
  rows_other : SameRows (kinds h) (kinds (other_header h))
  unfolding kinds other_header
  rows_other = row_stays (row_stays (row_stays (row_stays (row_stays (row_stays (refl, (refl, (λ n. absurd (n refl), tt))))))))

  pub all_other : (kind : ℕ) → in_all h kind ≡ in_all (other_header h) kind
  all_other kind = rows_all (kinds h) (kinds (other_header h)) rows_other kind

  pub wide_other : (kind : ℕ) → (kind ≡ 6 → ⊥) → record_width h kind ≡ record_width (other_header h) kind
  wide_other kind n = rows_wide (kinds h) (kinds (other_header h)) rows_other kind n

  -- a kind that has a record is one of the table
  none_of : (kind : ℕ) → ((n : ℕ) → 1 ≤ n → n ≤ 7 → n ≡ kind → ⊥) → in_all h kind ≡ 0
  unfolding kinds
  none_of kind f =
      rows_none kind (kinds h) (
        f 1 (omega arith) (omega arith),
        (
          f 2 (omega arith) (omega arith),
          (f 3 (omega arith) (omega arith), (f 7 (omega arith) (omega arith), (f 4 (omega arith) (omega arith), (f 5 (omega arith) (omega arith), (f 6 (omega arith) (omega arith), tt))))),
        ),
      )

  pub known : (kind i : ℕ) → i < in_all h kind → IsKind kind
  known kind i l = go (dec_lt kind 8) (dec_lt 0 kind)
    where
      go : Dec (kind < 8) → Dec (0 < kind) → IsKind kind
      go (yes a) (yes b) = (b, a)
      go (yes a) (no b) = absurd (omega (arith, none_of kind (λ n x y e. omega arith)))
      go (no a) b = absurd (omega (arith, none_of kind (λ n x y e. omega arith)))

module _ (image : List ℕ) (p : Passing image) (fifteen : T (one_ways image)) (sixteen : block_total (other_header (header image)) ≤ 128) where
  abbrev h : Header
  h = header image

  abbrev o : Header
  o = other_header h

  pub is_laid : Laid image h
  is_laid = laid image p.length_right_lem p.layout_right

  pub by_form : (h.form ≡ 1) ⊎ (h.form ≡ 2)
  by_form = go (ℕ_discrete h.form 1)
    where
      go : Dec (h.form ≡ 1) → (h.form ≡ 1) ⊎ (h.form ≡ 2)
      go (yes e) = inl e
      go (no n) = inr (forced is_laid.limits.form_least is_laid.limits.form_most)
        where
          forced : 1 ≤ h.form → h.form ≤ 2 → h.form ≡ 2
          forced a b = omega (arith, n)

  pub limits : Limited o
  unfolding other_header
  limits =
      let l = is_laid.limits in
      record {
        letters_least = l.letters_least;
        letters_most = l.letters_most;
        pairs_least = l.pairs_least;
        pairs_most = l.pairs_most;
        rules_most = l.rules_most;
        lexicons_least = l.lexicons_least;
        lexicons_most = l.lexicons_most;
        entries_least = l.entries_least;
        entries_most = l.entries_most;
        sets_most = l.sets_most;
        form_least = omega arith;
        form_most = omega arith;
        blocks_most = sixteen;
      }

  pub some : 1 ≤ block_total o
  unfolding block_total kinds
  some = omega arith

  -- the two halves of test 8
  abbrev is_entry_at : ℕ → Bool
  is_entry_at e = is_entry (entry image e) h.form h.letters h.lexicons

  counts_and_entries : T (eqb (sum (map (entry_count image) (below h.lexicons))) h.entries) × T (every is_entry_at (below h.entries))
  unfolding right_entries
  counts_and_entries =
      and_out (eqb (sum (map (entry_count image) (below h.lexicons))) h.entries) (every is_entry_at (below h.entries)) (of_true (right_entries image) p.entries_right)

  module _ (e : ℕ) (there : e < h.entries) where
    entry_right : T (is_entry (entry image e) h.form h.letters h.lexicons)
    unfolding right_entries
    entry_right = every_at (λ e. is_entry (entry image e) h.form h.letters h.lexicons) (below h.entries) (below_has h.entries e there)
        counts_and_entries.1

    pub entry_parts : (form_length (entry image e) ≤ 12) × T (right_ways (entry image e) h.form h.lexicons)
    unfolding is_entry is_entry_of
    entry_parts =
        let u = out4 (leb (form_length (entry image e)) 12) (every (within 2 h.letters) (form_of (entry image e)))
        (every is_zero (drop (1 + form_length (entry image e)) (take 13 (entry image e)))) (right_ways (entry image e) h.form h.lexicons) entry_right in
        (leb→le (form_length (entry image e)) 12 u.0, u.3)

    pub entry_long : length (entry image e) ≡ entry_width h.form
    unfolding kinds
    entry_long = record_length is_laid 6 e there

    pub one_way : h.form ≡ 2 → way_count (entry image e) 2 ≤ 1
    unfolding one_ways
    one_way two =
        leb→le (way_count (entry image e) 2) 1
        (every_at (λ e. leb (way_count (entry image e) 2) 1) (below h.entries) (below_has h.entries e there)
        (subst (λ (b : Bool). T (not b || every (λ e. leb (way_count (entry image e) 2) 1) (below h.entries))) (eq-eqb h.form 2 two) fifteen))

    pub stays : Kept h.form h.lexicons (entry image e)
    stays = kept h.form h.lexicons by_form is_laid.limits.lexicons_most (entry image e) entry_long entry_parts.1 one_way

  -- its records
  pub record_head : (i : ℕ) → other_records image 1 i ≡ header_bytes o
  unfolding other_records
  record_head i = refl

  pub record_entry : (i : ℕ) → other_records image 6 i ≡ other_entry h.form (entry image i)
  unfolding other_records
  record_entry i = refl

  pub record_rest : (kind i : ℕ) → (kind ≡ 1 → ⊥) → (kind ≡ 6 → ⊥) → other_records image kind i ≡ record_at image kind i
  unfolding other_records
  record_rest kind i a b = rw (ne_eqb kind 1 a, ne_eqb kind 6 b) refl

  head_wide : length (header_bytes o) ≡ record_width o 1
  unfolding header_bytes kinds
  head_wide = refl

  entries_in : (i : ℕ) → i < in_all h 6 → i < h.entries
  unfolding kinds
  entries_in i l = l

  entry_wide : (i : ℕ) → i < h.entries → length (other_entry h.form (entry image i)) ≡ record_width o 6
  unfolding kinds other_header
  entry_wide i l = (stays i l).long

  pub sized : Sized o (other_records image)
  sized kind i l = go (ℕ_discrete kind 1) (ℕ_discrete kind 6) (omega (arith, all_other h kind))
    where
      go : Dec (kind ≡ 1) → Dec (kind ≡ 6) → i < in_all h kind → length (other_records image kind i) ≡ record_width o kind
      go (yes e) b there = subst (λ (k : ℕ). length (other_records image k i) ≡ record_width o k) (sym e) (ap length (record_head i) ∙ head_wide)
      go (no a) (yes b) there =
          subst (λ (k : ℕ). length (other_records image k i) ≡ record_width o k) (sym b)
          (ap length (record_entry i) ∙ entry_wide i (entries_in i (subst (λ (k : ℕ). i < in_all h k) b there)))
      go (no a) (no b) there = ap length (record_rest kind i a b) ∙ record_length is_laid kind i there ∙ wide_other h kind b

  abbrev other : List ℕ
  other = converted_image image

  form_small : o.form < 65536
  unfolding other_header
  form_small = omega arith

  pub header_is : header other ≡ o
  unfolding converted_image
  header_is = built_header o (other_records image) sixteen some sized limits form_small (record_head 0)

  pub record_is : (kind i : ℕ) → i < in_all h kind → record_at other kind i ≡ other_records image kind i
  unfolding converted_image
  record_is kind i l = built_record o (other_records image) sixteen some sized limits kind i (known h kind i l) (omega (arith, all_other h kind)) header_is

  pub entry_is : (e : ℕ) → e < h.entries → entry other e ≡ other_entry h.form (entry image e)
  unfolding kinds
  entry_is e l = record_is 6 e l ∙ record_entry e

  pub form_is : (header other).form ≡ 3 - h.form
  unfolding other_header
  form_is = ap (λ (g : Header). g.form) header_is

  pub counterpart : Counterpart image other
  unfolding other_header
  counterpart = record {
    letters = sym (ap (λ (g : Header). g.letters) header_is);
    pairs = sym (ap (λ (g : Header). g.pairs) header_is);
    rules = sym (ap (λ (g : Header). g.rules) header_is);
    lexicons = sym (ap (λ (g : Header). g.lexicons) header_is);
    entries = sym (ap (λ (g : Header). g.entries) header_is);
    sets = sym (ap (λ (g : Header). g.sets) header_is);
    records = λ kind i a b l. sym (record_is kind i l ∙ record_rest kind i a b);
    lexicons_least = is_laid.limits.lexicons_least;
    lexicons_most = is_laid.limits.lexicons_most;
    forms = λ e l. same_form (entry image e) (other_entry h.form (entry image e)) (stays e l).front (entry_parts e l).0 ∙ ap form_of (sym (entry_is e l));
    stops = λ e l. (stays e l).stop ∙ ap₂ (λ (x : List ℕ) (f : ℕ). may_stop x f) (sym (entry_is e l)) (sym form_is);
    goes = λ e l x k. (stays e l).goes x k ∙ ap₂ (λ (y : List ℕ) (f : ℕ). goes_to y f x) (sym (entry_is e l)) (sym form_is);
  }

  -- "the rows of every word are alike before and after"
  pub readings_alike : (request : Request) → all_readings image request ≡ all_readings other request
  unfolding all_readings
  readings_alike request = alike_readings (counterpart_alike counterpart) (query_of request)

  total_is : block_count other ≡ block_total o
  unfolding converted_image
  total_is = built_count o (other_records image) sixteen some sized

  laid_is : (k : ℕ) → k < block_total o → T (laid_out o k (block other k))
  unfolding converted_image
  laid_is k l = built_laid o (other_records image) sixteen some sized k l

  length_test : T (right_length other)
  unfolding converted_image
  length_test = built_length o (other_records image) sixteen some sized

  checks_test : T (right_checks other)
  unfolding converted_image
  checks_test = built_checks o (other_records image) sixteen some sized

  -- test 3
  layout_test : T (right_layout other)
  unfolding right_layout
  layout_test =
      subst (λ (g : Header). T (within 1 2 g.form && within_limits g && eqb (block_count other) (block_total g) && every (λ k. laid_out g k (block other k)) (below (block_count other))))
      (sym header_is)
      (in4 (within 1 2 o.form) (within_limits o) (eqb (block_count other) (block_total o)) (every (λ k. laid_out o k (block other k)) (below (block_count other)))
      (within_in 1 2 o.form limits.form_least limits.form_most)
      (of_true (within_limits o) (limits_kept o (counted o limits)))
      (eq→eqb (block_count other) (block_total o) total_is)
      (every_in (λ k. laid_out o k (block other k)) (below (block_count other)) (λ k m. laid_is k (subst (λ (n : ℕ). k < n) total_is (below_from (block_count other) k m)))))

  -- test 8
  entry_test : (e : ℕ) → e < h.entries → T (is_entry (entry other e) (header other).form (header other).letters (header other).lexicons)
  unfolding is_entry other_header
  entry_test e l =
      subst (λ (g : Header). T (is_entry_of (entry other e) g.form (within 2 g.letters) g.lexicons)) (sym header_is)
      (subst (λ (x : List ℕ). T (is_entry_of x (3 - h.form) (within 2 h.letters) h.lexicons)) (sym (entry_is e l))
      (same_entry (entry image e) (other_entry h.form (entry image e)) (stays e l).front h.form (3 - h.form) h.lexicons (within 2 h.letters) (entry_right e l) (stays e l).right))

  entries_test : T (right_entries other)
  unfolding right_entries
  entries_test =
      and_in (eqb (sum (map (entry_count other) (below (header other).lexicons))) (header other).entries)
      (every (λ e. is_entry (entry other e) (header other).form (header other).letters (header other).lexicons) (below (header other).entries))
      (subst T (ap₂ (λ (a b : ℕ). eqb a b) (sum_same counterpart) counterpart.entries)
      counts_and_entries.0)
      (every_in (λ e. is_entry (entry other e) (header other).form (header other).letters (header other).lexicons) (below (header other).entries)
      (λ e m. entry_test e (subst (λ (n : ℕ). e < n) (sym counterpart.entries) (below_from (header other).entries e m))))

  pub converted_passing : Passing other
  converted_passing = record {
    length_right_lem = true_of (right_length other) length_test;
    checks_right = true_of (right_checks other) checks_test;
    layout_right = true_of (right_layout other) layout_test;
    letters_right = sym (letters_test counterpart) ∙ p.letters_right;
    pairs_right = sym (pairs_test counterpart) ∙ p.pairs_right;
    tables_right = sym (tables_test counterpart) ∙ p.tables_right;
    columns_right = sym (columns_test counterpart) ∙ p.columns_right;
    entries_right = true_of (right_entries other) entries_test;
    forms_right = sym (forms_test counterpart) ∙ p.forms_right;
  }

  -- a converted image is accepted, and of the other form
  pub converted_accepted : (image_verdict other ≡ accepted) × ((header other).form ≡ 3 - h.form)
  converted_accepted = (passing_to other converted_passing, form_is)
