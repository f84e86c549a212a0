-- `ways_of` meets its contract: in form 2 the mark and the eight bytes say it, in form 1 the one byte, which is the end or one lexicon.
use native.Mathlib.Omega.{arith}
use mathlib.Core.Path.{◌≡◌, sym, ap, ◌∙◌}
use mathlib.Core.List.{List}
use Prim.Native.Nat.{ℕ, ◌+◌, ◌*◌, ◌%◌, ◌^◌, ◌<◌}
use lib.ListN.{drop}
use lib.Seq.{drop-drop}
use lib.Pow.{shl_exact}
use lib.Dec.{lit<, eqb}
use Rattle.model.specs.Lists.{byte, bit}
use Rattle.model.specs.Blocks.{Header, record_width, record_start}
use Rattle.model.specs.RuleTables.{in_set}
use Rattle.model.specs.Lexicon.{entry}
use Rattle.image.specs.Header.{header_of}
use Rattle.image.proofs.Records.{record_part}
use Rattle.lexicon.proofs.Laws.{width_is, entry_byte, entry_inside, entry_room, set_cut}
use Rattle.lexicon.proofs.WayLaws.{width_by, end_stops, end_names, on_stops, on_names, far_names, many_stops, many_names}
use Rattle.lexicon.proofs.ways.ways_of.Goals as goal
use Rattle.lexicon.proofs.ways.ways_of.Goals.{After-byte_at-byte}

one_at : (i : ℕ) → i < 64 → (1 * 2 ^ i) % 2 ^ 64 ≡ 2 ^ i
one_at i h = shl_exact {a = 1} 1 i 64 (lit< tt) (omega arith) ∙ omega arith

module _ (b : After-byte_at-byte) where
  abbrev image : List ℕ
  image = b.args.image.now

  abbrev h : Header
  h = header_of b.args.h

  abbrev e : ℕ
  e = b.args.e

  abbrev form : ℕ
  form = b.args.h.form

  byte_is : b.byte_at-byte.result ≡ byte (entry image e) 13
  byte_is = b.byte_at-byte.ensures.0 ∙ ap (λ (n : ℕ). byte image (n + 13)) b.entry_start-at.ensures.0 ∙ sym (entry_byte image h b.requires.laid e 13 (omega arith))

  -- the set as it stands in the image
  set_there : form ≡ 2 → (x : ℕ) → x < 64 → in_set (drop 16 (entry image e)) x ≡ in_set (drop (b.entry_start-at.result + 16) image) x
  set_there two x few =
      ap (λ (l : List ℕ). in_set (drop 16 l) x) (record_part b.requires.laid 6 e)
      ∙ set_cut (drop (record_start h 6 e) image) (record_width h 6) x few (omega (arith, width_is h, (width_by form).1 two))
      ∙ ap (λ (l : List ℕ). in_set l x) (drop-drop 16 (record_start h 6 e) image)
      ∙ ap (λ (n : ℕ). in_set (drop (n + 16) image) x) (sym b.entry_start-at.ensures.0)

pub byte_at-byte-requires : goal.byte_at-byte-requires
byte_at-byte-requires c =
    omega (arith, entry_inside c.args.image.now (header_of c.args.h) c.requires.laid c.args.e 13 c.requires.e_lt_entries (omega arith), c.entry_start-at.ensures.0)

pub bits_at-requires : goal.bits_at-requires
bits_at-requires c =
    let b = (goal.at.bits_at-requires c).After-byte_at-byte in
    omega (arith, entry_room (image b) (h b) c.requires.laid (e b) c.requires.e_lt_entries, (width_by (form b)).1 c.if-h-eq2.true, c.entry_start-at.ensures.0)

pub returns-then-h-eq2 : goal.returns-then-h-eq2
returns-then-h-eq2 c =
    let b = (goal.at.returns-then-h-eq2 c).After-byte_at-byte in
    let own = entry (image b) (e b) in
    let two = c.if-h-eq2.true in record {
      stop = ap (λ (n : ℕ). eqb n 1) (byte_is b) ∙ sym (many_stops own (form b) two);
      bits = λ x few. many_names own (form b) two x ∙ set_there b two x few ∙ c.bits_at.ensures x few;
    }

pub returns-then-byte-eq255 : goal.returns-then-byte-eq255
returns-then-byte-eq255 c =
    let b = (goal.at.returns-then-byte-eq255 c).After-byte_at-byte in
    let own = entry (image b) (e b) in
    let end = sym (byte_is b) ∙ c.if-byte-eq255.true in
    record { stop = sym (end_stops own (form b) c.if-h-eq2.false end); bits = end_names own (form b) c.if-h-eq2.false end }

pub returns-then-byte-lt64 : goal.returns-then-byte-lt64
returns-then-byte-lt64 c =
    let b = (goal.at.returns-then-byte-lt64 c).After-byte_at-byte in
    let own = entry (image b) (e b) in
    let on : byte own 13 ≡ 255 → ⊥ = λ q. c.if-byte-eq255.false (byte_is b ∙ q) in record {
      stop = sym (on_stops own (form b) c.if-h-eq2.false on);
      bits = λ x few. on_names own (form b) c.if-h-eq2.false on x few
          ∙ ap (λ (n : ℕ). bit n x) (ap (λ (n : ℕ). 2 ^ n) (sym (byte_is b)) ∙ sym (one_at c.byte_at-byte.result (omega arith)));
    }

pub returns : goal.returns
returns c =
    let b = (goal.at.returns c).After-byte_at-byte in
    let own = entry (image b) (e b) in
    let on : byte own 13 ≡ 255 → ⊥ = λ q. c.if-byte-eq255.false (byte_is b ∙ q) in
    record { stop = sym (on_stops own (form b) c.if-h-eq2.false on); bits = far_names own (form b) c.if-h-eq2.false on (omega (arith, byte_is b)) }
