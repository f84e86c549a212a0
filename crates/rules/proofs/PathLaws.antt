-- Paths as the code reads them: their entry numbers, whether each entry opens where the one before leads, and the letters of their joined forms.
use Prim.Native.Nat.{ℕ, ◌+◌, ◌*◌, ◌-◌, ◌/◌, ◌%◌, ◌<◌, ◌≤◌}
use native.Mathlib.Omega.{arith}
use mathlib.Core.Bool.{Bool, true, false, ◌&&◌, ◌||◌}
use mathlib.Core.Path.{◌≡◌, refl, sym, ap, ap₂, ◌∙◌, subst}
use mathlib.Core.List.{List, [], ◌∷◌, ◌++◌, map, Memᴰ}
use lib.ListN.{length, get_or, drop, get_or-append, drop_of_length-le}
use lib.Seq.{drop-append-add}
use Rattle.std.proofs.lemmas.List.{get_or-drop, length-append, length-drop}
use lib.Dec.{T, ltb, eqb, ltb→lt, eqb→eq}
use native.Mathlib.Numerals.{add-one, unary_clauses}
use Rattle.model.specs.Lists.{below, every, any, joined, byte, bit, number}
use Rattle.model.specs.Blocks.{Header, header, record_start}
use Rattle.model.specs.Lexicon.{in_lexicon, entry, form_length, form_of, may_stop, goes_to, linked, path_length}
use Rattle.model.specs.Refusals.{right_entries}
use Rattle.model.specs.GrammarOf.{grammar_of}
use Rattle.model.specs.Readings.{is_linked}
use Rattle.model.specs.Beside.{form_start}
use Rattle.model.specs.Query.{entry_numbers}
use Rattle.model.proofs.Booleans.{and_out, and_in, true_of, false_of, of_true, eq→eqb}
use Rattle.model.proofs.Lists.{length_numbers, number_in, below_has, below_from, any_has, any_from, any_more}
use Rattle.model.proofs.Rest.{drop_step, every_get_d}
use Rattle.image.specs.Laid.{Laid}
use Rattle.image.specs.Accepted.{Accepted}
use Rattle.lexicon.proofs.Laws.{entry_inside, form_size, form_byte, form_short}
use Rattle.rules.specs.Paths.{Entered, in_some}
use Rattle.digits.specs.Ways.{Names}
use Rattle.digits.proofs.Bits.{power_bit}

-- the count of entries that a header tells is the image's
pub laid_entries : {image : List ℕ} {h : Header} → Laid image h → h.entries ≡ (header image).entries
laid_entries l = ap (λ (k : Header). k.entries) l.header_is

-- two bytes to an entry number
module _ (path : List ℕ) where
  pub length_entry_numbers : length (entry_numbers path) ≡ length path / 2
  unfolding entry_numbers
  length_entry_numbers = length_numbers path

  pub entry_number : (i : ℕ) → i < length path / 2 → get_or (entry_numbers path) i 0 ≡ number path (2 * i)
  unfolding entry_numbers
  entry_number i h = number_in path i h

  -- test 11, by the number of bytes
  abbrev pub length_right : Bool
  length_right = eqb (length path % 2) 0 && path_length (entry_numbers path)

-- sets of lexicons
pub any_same : (f g : ℕ → Bool) (xs : List ℕ) → ((x : ℕ) → Memᴰ x xs → f x ≡ g x) → any f xs ≡ any g xs
any_same f g [] e = refl
any_same f g (x ∷ xs) e = ap₂ (λ (a b : Bool). a || b) (e x (Memᴰ.head refl)) (any_same f g xs (λ y m. e y (Memᴰ.tail m)))

any_one : (f : ℕ → Bool) (c n : ℕ) → c < n → any (λ x. eqb c x && f x) (below n) ≡ f c
any_one f c n l = both (any (λ x. eqb c x && f x) (below n)) (f c)
    (λ t. let u = any_from (λ x. eqb c x && f x) (below n) t in let v = and_out (eqb c u.0) (f u.0) u.2 in subst (λ (x : ℕ). T (f x)) (sym (eqb→eq c u.0 v.0)) v.1)
    (λ t. any_has (λ x. eqb c x && f x) (below n) (below_has n c l) (and_in (eqb c c) (f c) (eq→eqb c c refl) t))
  where
    both : (a b : Bool) → (T a → T b) → (T b → T a) → a ≡ b
    both true b f g = sym (true_of b (f tt))
    both false b f g = sym (false_of b g)

module _ (image : List ℕ) (lexicons bits e : ℕ) where
  abbrev pub named : ℕ → Bool
  named x = bit bits x && in_lexicon image x e

  -- one lexicon more that does not have it
  pub none_more : (x : ℕ) → any named (below x) ≡ false → named x ≡ false → any named (below (x + 1)) ≡ false
  none_more x a b = ap (λ (n : ℕ). any named (below n)) (add-one x) ∙ any_more named (below x) x ∙ rw (a, b) refl

  -- one that has it
  pub some_here : (x : ℕ) → x < lexicons → named x ≡ true → in_some image lexicons bits e ≡ true
  some_here x l t = true_of (in_some image lexicons bits e) (any_has named (below lexicons) (below_has lexicons x l) (of_true (named x) t))

-- the rest of a path, from where these lexicons are next, or it may stop
abbrev pub linked_from : List ℕ → ℕ → Bool → List ℕ → Bool
linked_from image bits stop es = linked (grammar_of image).entries (grammar_of image).follows (grammar_of image).ends (in_some image (header image).lexicons bits) stop es

module _ (image : List ℕ) where
  -- linked, by what may come first
  abbrev linked_by : (ℕ → Bool) → Bool → List ℕ → Bool
  linked_by may stop es = linked (grammar_of image).entries (grammar_of image).follows (grammar_of image).ends may stop es

  linked_may : (es : List ℕ) (may other : ℕ → Bool) (stop : Bool) → ((e : ℕ) → may e ≡ other e)
      → linked_by may stop es ≡ linked_by other stop es
  unfolding linked
  linked_may [] may other stop same = refl
  linked_may (e ∷ es) may other stop same =
      ap (λ (b : Bool). b && ltb e (grammar_of image).entries && linked_by ((grammar_of image).follows e) ((grammar_of image).ends e) es) (same e)

  pub linked_start : 1 ≤ (header image).lexicons → (es : List ℕ) → linked_from image 1 false es ≡ is_linked (grammar_of image) es
  unfolding grammar_of
  linked_start some es =
      linked_may es (in_some image (header image).lexicons 1) (in_lexicon image 0) false
      (λ e. any_same (λ x. bit 1 x && in_lexicon image x e) (λ x. eqb 0 x && in_lexicon image x e) (below (header image).lexicons)
      (λ x m. ap (λ (b : Bool). b && in_lexicon image x e) (power_bit 0 x)) ∙ any_one (λ x. in_lexicon image x e) 0 (header image).lexicons some)

  pub linked_end : (bits : ℕ) (stop : Bool) (i : ℕ) (es : List ℕ) → length es ≤ i → linked_from image bits stop (drop i es) ≡ stop
  unfolding linked
  linked_end bits stop i es h = ap (linked_from image bits stop) (drop_of_length-le es h)

  abbrev pub may_open : ℕ → ℕ → ℕ → Bool
  may_open bits e entries = in_some image (header image).lexicons bits e && ltb e entries

  linked_cons : (bits : ℕ) (stop : Bool) (e : ℕ) (es : List ℕ)
      → linked_from image bits stop (e ∷ es) ≡ (may_open bits e (header image).entries && linked_by ((grammar_of image).follows e) ((grammar_of image).ends e) es)
  unfolding linked grammar_of
  linked_cons bits stop e es = refl

  -- after entry e, by its ways on
  pub linked_ways : (e bits : ℕ) (stop : Bool) → (header image).lexicons ≤ 64 → stop ≡ may_stop (entry image e) (header image).form
      → Names (goes_to (entry image e) (header image).form) bits → (es : List ℕ)
      → linked (grammar_of image).entries (grammar_of image).follows (grammar_of image).ends ((grammar_of image).follows e) ((grammar_of image).ends e) es ≡ linked_from image bits stop es
  unfolding grammar_of
  linked_ways e bits stop few s names es =
      linked_may es ((grammar_of image).follows e) (in_some image (header image).lexicons bits) ((grammar_of image).ends e)
      (λ f. any_same (λ x. goes_to (entry image e) (header image).form x && in_lexicon image x f) (λ x. bit bits x && in_lexicon image x f) (below (header image).lexicons)
      (λ x m. ap (λ (b : Bool). b && in_lexicon image x f) (names x (omega (arith, below_from (header image).lexicons x m)))))
      ∙ ap (λ (b : Bool). linked_from image bits b es) (sym s)

  module _ (es : List ℕ) (i bits : ℕ) (stop : Bool) (e : ℕ) (inside : i < length es) (this : get_or es i 0 ≡ e) where
    abbrev after : Bool
    after = linked (grammar_of image).entries (grammar_of image).follows (grammar_of image).ends ((grammar_of image).follows e) ((grammar_of image).ends e) (drop (i + 1) es)

    linked_step : linked_from image bits stop (drop i es) ≡ (may_open bits e (header image).entries && after)
    linked_step = ap (linked_from image bits stop) (drop_step es 0 i inside ∙ ap {B = List ℕ} (λ e. e ∷ drop (i + 1) es) this) ∙ linked_cons bits stop e (drop (i + 1) es)

    pub linked_fails : may_open bits e (header image).entries ≡ false → linked_from image bits stop (drop i es) ≡ false
    linked_fails f = linked_step ∙ ap (λ (b : Bool). b && after) f

    pub linked_on : may_open bits e (header image).entries ≡ true → linked_from image bits stop (drop i es) ≡ after
    linked_on f = linked_step ∙ ap (λ (b : Bool). b && after) f

  -- one that may open is one of the image
  pub may_open_entry : (bits e entries : ℕ) → may_open bits e entries ≡ true → e < entries
  may_open_entry bits e entries h = ltb→lt e entries (and_out (in_some image (header image).lexicons bits e) (ltb e entries) (of_true (may_open bits e entries) h)).1

  -- each entry of a linked path is one of the image
  pub linked_entries : (path : List ℕ) → T (is_linked (grammar_of image) (entry_numbers path)) → Entered image path
  unfolding grammar_of linked
  linked_entries path t = go (grammar_of image).begins false (entry_numbers path) t
    where
      go : (may : ℕ → Bool) (stop : Bool) (es : List ℕ) → T (linked (grammar_of image).entries (grammar_of image).follows (grammar_of image).ends may stop es) → T (every (λ e. ltb e (header image).entries) es)
      go may stop [] t = tt
      go may stop (e ∷ es) t =
          let rest = linked (grammar_of image).entries (grammar_of image).follows (grammar_of image).ends ((grammar_of image).follows e) ((grammar_of image).ends e) es in
          let u = and_out (may e && ltb e (header image).entries) rest t in
          and_in (ltb e (header image).entries) (every (λ e. ltb e (header image).entries) es) (and_out (may e) (ltb e (header image).entries) u.0).1 (go ((grammar_of image).follows e) ((grammar_of image).ends e) es u.1)

  pub entered_at : (path : List ℕ) (i : ℕ) → Entered image path → i < length path / 2 → number path (2 * i) < (header image).entries
  entered_at path i t h =
      let l : i < length (entry_numbers path) = omega (arith, length_entry_numbers path) in
      ltb→lt (number path (2 * i)) (header image).entries (subst (λ (e : ℕ). T (ltb e (header image).entries)) (entry_number path i h) (every_get_d (λ e. ltb e (header image).entries) (entry_numbers path) i 0 l t))

-- the forms of a path, joined
module _ (form : ℕ → List ℕ) (es : List ℕ) (i t : ℕ) where
  abbrev pub forms_from : List ℕ
  forms_from = joined (map form (drop i es))

  pub forms_none : length es ≤ i → length forms_from ≤ t
  forms_none h = omega (arith, ap (λ (l : List ℕ). length (joined (map form l))) (drop_of_length-le es h))

  module _ (e : ℕ) (inside : i < length es) (this : get_or es i 0 ≡ e) where
    forms_step : forms_from ≡ form e ++ joined (map form (drop (i + 1) es))
    forms_step = ap (λ (l : List ℕ). joined (map form l)) (drop_step es 0 i inside ∙ ap {B = List ℕ} (λ e. e ∷ drop (i + 1) es) this)

    pub letter_here : t < length (form e) → (t < length forms_from) × (get_or forms_from t 0 ≡ get_or (form e) t 0)
    letter_here h =
        let rest = joined (map form (drop (i + 1) es)) in (
          omega (arith, ap length forms_step, length-append (form e) rest),
          ap (λ (l : List ℕ). get_or l t 0) forms_step ∙ get_or-append (form e) rest 0 t h,
        )

    pub letter_later : length (form e) ≤ t → drop t forms_from ≡ drop (t - length (form e)) (joined (map form (drop (i + 1) es)))
    letter_later h =
        let rest = joined (map form (drop (i + 1) es)) in
        let k : t ≡ length (form e) + (t - length (form e)) = omega arith in
        ap₂ (λ (l : List ℕ) (n : ℕ). drop n l) forms_step k ∙ drop-append-add (form e) rest (t - length (form e))

-- two lists that go on alike, one from n and the other from t
module _ (xs ys : List ℕ) (n t : ℕ) (alike : drop n xs ≡ drop t ys) where
  left_alike : length xs - n ≡ length ys - t
  left_alike = sym (length-drop n xs) ∙ ap length alike ∙ length-drop t ys

  pub over_alike : length xs ≤ n → length ys ≤ t
  over_alike h = omega (arith, left_alike)

  pub letter_alike : n < length xs → (t < length ys) × (get_or xs n 0 ≡ get_or ys t 0)
  letter_alike h = (omega (arith, left_alike), sym (front xs n) ∙ ap (λ (l : List ℕ). get_or l 0 0) alike ∙ front ys t)
    where
      front : (l : List ℕ) (i : ℕ) → get_or (drop i l) 0 0 ≡ get_or l i 0
      front l i = simp unary_clauses at (get_or-drop i l 0 0)

module _ {image : List ℕ} {h : Header} (ok : Accepted image h) where
  -- the form of an entry
  pub grammar_form : (e : ℕ) → (grammar_of image).form e ≡ form_of (entry image e)
  unfolding grammar_of
  grammar_form e = refl

  pub form_length_lem : (e : ℕ) → e < h.entries → length ((grammar_of image).form e) ≡ form_length (entry image e)
  form_length_lem e l = ap length (grammar_form e) ∙ form_size image h ok.laid e l (form_short image h ok.laid (of_true (right_entries image) ok.entries_right) e l)

  -- letter t of an entry's form, in the image
  module _ (e t : ℕ) (l : e < h.entries) (k : t < form_length (entry image e)) where
    short : form_length (entry image e) ≤ 12
    short = form_short image h ok.laid (of_true (right_entries image) ok.entries_right) e l

    pub letter_inside : record_start h 6 e + (1 + t) < length image
    letter_inside = entry_inside image h ok.laid e (1 + t) l (omega (arith, short))

    pub letter_byte : byte image (record_start h 6 e + (1 + t)) ≡ get_or (form_of (entry image e)) t 0
    unfolding form_start
    letter_byte =
        let s : record_start h 6 e ≡ record_start (header image) 6 e = ap (λ (g : Header). record_start g 6 e) ok.laid.header_is in
        sym (form_byte image h ok.laid e t short k ∙ ap (byte image) (omega arith))
