-- `filter::prepare` meets its contract.
use Prim.Native.Nat.{ℕ, ◌<◌, ◌≤◌, ◌^◌}
use native.Mathlib.Omega.{arith}
use native.Mathlib.Decide.{dec_lt}
use mathlib.Core.Path.{◌≡◌, refl, sym, ap, subst}
use mathlib.Core.List.{List}
use lib.ListN.{length, get_or, replicate, get_or-replicate, get_or-eq_default}
use lib.Pow.{pow_pos, pow_mono}
use Rattle.model.specs.Blocks.{Header, header}
use Rattle.model.specs.Query.{Pattern, exactly}
use Rattle.image.specs.Accepted.{Accepted}
use Rattle.forms.specs.Letters.{Rowed}
use Rattle.forms.specs.Forms.{flags_in, FormsOf}
use Rattle.filter.specs.Letters.{Wrote}
use Rattle.listing.specs.Asked.{word_pattern}
use Rattle.positions.specs.Stack.{Filled, Begins}
use Rattle.filter.proofs.Parts.{part_long}
use Rattle.filter.proofs.Words.{exactly_within, asks_word, word_covers, word_reaches}
use Rattle.filter.proofs.prepare.Goals as goal

-- no letter has a set yet
none : {masks : List ℕ} → masks ≡ replicate 128 0 → (a : ℕ) → get_or masks a 0 < 2 ^ 32
none e a = rw e (go (dec_lt a 128))
  where
    go : Dec (a < 128) → get_or (replicate 128 0) a 0 < 2 ^ 32
    go (yes h) = omega (arith, get_or-replicate {A = ℕ} 128 a 0 0 h)
    go (no h) = omega (arith, get_or-eq_default {A = ℕ} (replicate 128 0) 0 {n = a} (omega arith))

filled : {image forms rows masks : List ℕ} {t : Pattern} {n : ℕ} → FormsOf image forms → Wrote rows t masks n → Filled masks (flags_in forms)
filled {image} {forms} f w = record { long = w.long; flags_long = part_long forms 30976 128 (omega (arith, f.long)); letters_in = w.few }

lexicons_few : {image : List ℕ} {h : Header} → Accepted image h → (header image).lexicons ≤ 64
lexicons_few a = omega (arith, a.laid.limits.lexicons_most, ap (λ (g : Header). g.lexicons) a.laid.header_is)

lexicons_are : {image masks reach : List ℕ} {h : Header} {end : ℕ} → Accepted image h → Begins masks end h.lexicons reach → Begins masks end (header image).lexicons reach
lexicons_are {image} {masks} {reach} {h} {end} a = subst (λ (n : ℕ). Begins masks end n reach) (ap (λ (g : Header). g.lexicons) a.laid.header_is)

pub rows-requires : goal.rows-requires
rows-requires c = c.requires.forms_of.long

pub fill-end-requires : goal.fill-end-requires
fill-end-requires c =
    let word = c.requires.writable in
    record { by_index = λ i h. subst (λ (l : List ℕ). Rowed l (get_or c.args.word.now i 0)) (sym c.rows.ensures) (c.requires.forms_of.rowed (get_or c.args.word.now i 0) (word.1 i h)); word_len_bound = (word.0, ap length c.requires.masks_value.0); by_index_2 = none c.requires.masks_value.0 }

pub begin-requires : goal.begin-requires
begin-requires c =
    let w = c.fill-end.ensures in
    record { masks_len = (w.sets.long, c.requires.masks_value.1); end_nonzero = ((omega (arith, w.end, pow_pos (length c.args.word.now)), omega (arith, w.end, pow_mono {i = length c.args.word.now} {j = 32} c.requires.writable.0)), c.requires.accepted.laid.limits.lexicons_most) }

pub narrow-requires : goal.narrow-requires
narrow-requires c =
    let w = c.fill-end.ensures in
    record { accepted = c.requires.accepted; index_value = c.requires.index_value; forms_of = c.requires.forms_of; filled = filled c.requires.forms_of w.sets; reached = c.begin.ensures.1 }

pub returns : goal.returns
unfolding word_pattern
returns c = λ path.
    let w = c.fill-end in
    let rows = c.rows in
    let b = c.begin in
    let done = c.narrow.ensures in
    let forms = c.requires.forms_of in
    let image = c.args.image.now in
    let word = c.args.word.now in
    let masks = w.new.masks in
    let flags = flags_in c.args.forms.now in
    let reach = b.new.reach in
    let wrote = subst (λ (l : List ℕ). Wrote l (exactly word) masks (length word)) rows.ensures w.ensures.sets in
    let begun = lexicons_are c.requires.accepted (subst (λ (n : ℕ). Begins masks n c.args.h.lexicons reach) w.ensures.end b.ensures.0) in
    record {
      forms_of_lem = forms;
      filled = filled forms w.ensures.sets;
      reached = done.reached;
      covers = word_covers image c.args.forms.now masks (exactly word) path (length word) (exactly_within word) forms wrote;
      reaches = done.reaches (asks_word (exactly word) path)
          (word_reaches image masks flags reach (exactly word) path (length word) (λ k. refl) (lexicons_few c.requires.accepted) begun);
    }
