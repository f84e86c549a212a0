-- The text of a context read: recursive descent, each call on a shorter text.
use Rattle.std.specs.Prelude.{ℕ, zero, suc, ◌-◌, ◌≤◌, Bool, true, false, ◌&&◌, ◌||◌, cond, ◌≡◌, List, [], ◌∷◌, length, drop, T, leb, eqb}
use Rattle.contexts.specs.Context.{Context, pair, any, star, sequence, either, bracket, Level, tight, side, whole, canonical, written, depth}

abbrev pub is_digit : ℕ → Bool
is_digit x = leb 48 x && leb x 57

abbrev pub starts_with : ℕ → List ℕ → Bool
starts_with b [] = false
starts_with b (x ∷ xs) = eqb x b

-- a digit, a full stop or an opening bracket comes next
abbrev pub begins_atom : List ℕ → Bool
begins_atom [] = false
begins_atom (x ∷ xs) = is_digit x || eqb x 46 || eqb x 40

-- a context and the text after it, or a text that begins with none
pub data Read : Type 0 where
  failed : Read
  got : Context → List ℕ → Read

abbrev pub and_then : Read → (Context → List ℕ → Read) → Read
and_then failed f = failed
and_then (got c r) f = f c r

abbrev pub Reader : Type 0
Reader = Level → ℕ → List ℕ → Read

-- as many stars as follow
abbrev pub read_stars : Context → List ℕ → Read
read_stars c [] = got c []
read_stars c (x ∷ xs) = cond (eqb x 42) (read_stars (star c) xs) (got c (x ∷ xs))

abbrev pub read_pair : List ℕ → Read
read_pair [] = failed
read_pair (x ∷ []) = failed
read_pair (x ∷ y ∷ []) = failed
read_pair (x ∷ y ∷ z ∷ r) = cond (is_digit x && is_digit y && is_digit z) (got (pair (x - 48) (y - 48) (z - 48)) r) failed

abbrev pub closed : Context → List ℕ → Read
closed c t = cond (starts_with 41 t) (got (bracket c) (drop 1 t)) failed

-- what each level reads, with `rec` for the texts that are shorter, and b brackets still to be opened one in another
abbrev pub read_bracket : Reader → ℕ → List ℕ → Read
read_bracket rec zero t = failed
read_bracket rec (suc b) t = and_then (rec whole b t) closed

abbrev pub read_atom_as : Reader → ℕ → Bool → Bool → List ℕ → Read
read_atom_as rec b true dot t = read_bracket rec b (drop 1 t)
read_atom_as rec b false true t = got any (drop 1 t)
read_atom_as rec b false false t = read_pair t

abbrev pub read_tight : Reader → ℕ → List ℕ → Read
read_tight rec b t = and_then (read_atom_as rec b (starts_with 40 t) (starts_with 46 t) t) read_stars

abbrev pub more_of_side : Reader → ℕ → Context → Bool → List ℕ → Read
more_of_side rec b c true t = and_then (rec side b t) (λ d r. got (sequence c d) r)
more_of_side rec b c false t = got c t

abbrev pub more_sides : Reader → ℕ → Context → Bool → List ℕ → Read
more_sides rec b c true t = and_then (rec whole b (drop 1 t)) (λ d r. got (either c d) r)
more_sides rec b c false t = got c t

abbrev pub read_side : Reader → ℕ → List ℕ → Read
read_side rec b t = and_then (read_tight rec b t) (λ c r. more_of_side rec b c (begins_atom r) r)

abbrev pub read_whole : Reader → ℕ → List ℕ → Read
read_whole rec b t = and_then (read_side rec b t) (λ c r. more_sides rec b c (starts_with 124 r) r)

abbrev pub read_at : Reader → Reader
read_at rec tight b t = read_tight rec b t
read_at rec side b t = read_side rec b t
read_at rec whole b t = read_whole rec b t

-- with n for the length that the text has at most
abbrev pub read : ℕ → Reader
read zero l b t = failed
read (suc n) l b t = read_at (read n) l b t

-- a rule's left or right context: none ("an empty context holds everywhere"), one, or a text that is not of the grammar
pub data Written : Type 0 where
  everywhere : Written
  where_it_runs : Context → Written
  wrong : Written

abbrev pub to_the_end : Read → Written
to_the_end failed = wrong
to_the_end (got c []) = where_it_runs c
to_the_end (got c (x ∷ xs)) = wrong

-- "A context is a text of at most 64 bytes", and "brackets .. may be nested to depth 8"
unfoldable pub read_context : List ℕ → Written
read_context [] = everywhere
read_context (x ∷ xs) = cond (leb (length (x ∷ xs)) 64) (to_the_end (read (length (x ∷ xs)) whole 8 (x ∷ xs))) wrong

-- whether a text is of the grammar
abbrev pub is_right : Written → Bool
is_right everywhere = true
is_right (where_it_runs c) = true
is_right wrong = false

-- in words: a context, and a text that is its, within the bounds
pub record IsTextOf (c : Context) (t : List ℕ) : Type 0 where
  pub shaped : T (canonical whole c)
  pub stood : written c ≡ t
  pub shallow : depth c ≤ 8
  pub short : length t ≤ 64
