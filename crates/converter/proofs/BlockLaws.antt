-- Blocks of the converted image: those before the entries are the image's own, but for the form in the first one; those of entries are made of records.
use Prim.Native.Nat.{ℕ, zero, suc, ◌+◌, ◌*◌, ◌-◌, ◌/◌, ◌%◌, ◌<◌, ◌≤◌, min}
use native.Mathlib.Omega.{arith}
use mathlib.Core.Path.{◌≡◌, refl, sym, ap, ap₂, ◌∙◌, subst}
use mathlib.Core.List.{List, [], ◌∷◌, ◌++◌, append_assoc}
use lib.ListN.{length, take, drop, set, replicate, replicate-append-replicate}
use lib.Seq.{take_at, take-set-lt, drop-set-add, drop-drop}
use lib.Dec.{T}
use Rattle.model.specs.Lists.{below, every, flat_map, within, byte, number_bytes}
use Rattle.model.specs.Blocks.{Header, Kind, header, kinds, row_of, in_all, record_width, per_block, first_block, record_at, block_total, block, kind_at, records_at, check_of, numbered, sealed_block}
use Rattle.model.specs.Lexicon.{entry}
use Rattle.model.proofs.Booleans.{of_true, within_out}
use Rattle.model.proofs.Lists.{below_from, every_at}
use Rattle.model.proofs.Parts.{flat_map_same, Wide}
use Rattle.model.proofs.Sealing.{length_numbered, length_sealed}
use Rattle.image.specs.Kinds.{IsKind}
use Rattle.image.specs.Laid.{Counted, Limited, Laid}
use Rattle.layout.specs.Placed.{Placed}
use Rattle.layout.proofs.Placing.{placed}
use Rattle.built.specs.Built.{Records, header_bytes, record_in, record_bytes, block_front, built_block, built}
use Rattle.built.proofs.Placed.{kind_row, records_among, records_fit, block_among}
use Rattle.built.proofs.Built.{block_long, bytes_long, built_blocks}
use Rattle.built.proofs.Rebuilt.{block_is}
use Rattle.conversion.specs.Conversion.{other_header, other_records, other_entry, converted_image, one_ways}
use Rattle.conversion.proofs.Converted as one
use Rattle.conversion.proofs.Converted.{Passing, passing_of}
use Rattle.conversion.proofs.Head.{header_record}
use Rattle.converter.specs.Answers.{OneWay, Converting}
use Rattle.converter.proofs.Stores.{zeros, drop_zeros, parts_to}

-- a sealed block is told by what stands between its number and its check
unfoldable inner : List ℕ → List ℕ
inner b = drop 2 (take 510 b)

sealed_same : (k : ℕ) (b c : List ℕ) → inner b ≡ inner c → sealed_block k b ≡ sealed_block k c
unfolding sealed_block numbered inner
sealed_same k b c e = ap (λ (l : List ℕ). number_bytes k ++ l ++ number_bytes (check_of (number_bytes k ++ l))) e

inner_sealed : (k : ℕ) (b : List ℕ) → length b ≡ 512 → inner (sealed_block k b) ≡ inner b
unfolding sealed_block inner numbered
inner_sealed k b long = ap (drop 2) (take_at (numbered k b) (number_bytes (check_of (numbered k b))) 510 (length_numbered k b long))

-- two bytes over, inside
inner_set : (b : List ℕ) (x y : ℕ) → inner (set (set b 4 x) 5 y) ≡ set (set (inner b) 2 x) 3 y
unfolding inner
inner_set b x y =
    ap (drop 2) (take-set-lt 510 (set b 4 x) 5 y (omega arith) ∙ ap (λ (l : List ℕ). set l 5 y) (take-set-lt 510 b 4 x (omega arith)))
    ∙ drop-set-add 2 (set (take 510 b) 4 x) 3 y
    ∙ ap (λ (l : List ℕ). set l 3 y) (drop-set-add 2 (take 510 b) 2 x)

-- a kind other than that of the entries has the same row and the same first block in both forms
module _ (h : Header) where
  abbrev o : Header
  o = other_header h

  unfoldable Alike-kind : ℕ → Type 0
  Alike-kind kind = (row_of kind (kinds h) ≡ row_of kind (kinds (other_header h))) × (first_block h kind ≡ first_block (other_header h) kind)

  rest_alike : (kind : ℕ) → IsKind kind → (kind ≡ 6 → ⊥) → Alike-kind kind
  unfolding Alike-kind kinds other_header
  rest_alike zero is n = absurd (omega arith)
  rest_alike (suc zero) is n = (refl, refl)
  rest_alike (suc (suc zero)) is n = (refl, refl)
  rest_alike (suc (suc (suc zero))) is n = (refl, refl)
  rest_alike (suc (suc (suc (suc zero)))) is n = (refl, refl)
  rest_alike (suc (suc (suc (suc (suc zero))))) is n = (refl, refl)
  rest_alike (suc (suc (suc (suc (suc (suc zero)))))) is n = absurd (n refl)
  rest_alike (suc (suc (suc (suc (suc (suc (suc zero))))))) is n = (refl, refl)
  rest_alike (suc (suc (suc (suc (suc (suc (suc (suc k)))))))) is n = absurd (omega arith)

  kinds_known : T (every (λ r. within 1 7 r.kind) (kinds h))
  unfolding kinds
  kinds_known = tt

  kind_known : (k : ℕ) → k < block_total h → IsKind (kind_at h k)
  unfolding kind_at block_total
  kind_known k there =
      let r = kind_row k (kinds h) 0 (omega arith) (omega arith) in
      let t = within_out 1 7 r.0.kind (every_at (λ r. within 1 7 r.kind) (kinds h) r.1 kinds_known) in
      subst IsKind (sym r.2) (t.0, omega arith)

  first_total : first_block h 6 ≤ block_total h
  unfolding kinds block_total
  first_total = omega arith

  last_among : (k : ℕ) → k < block_total h → k < first_block h 6 + (row_of 6 (kinds h)).blocks
  unfolding kinds block_total
  last_among k l = omega arith

  pub entries_placed : (k : ℕ) → first_block h 6 ≤ k → k < block_total h → Placed h k 6
  entries_placed k least most = placed h k 6 (omega arith, omega arith) least (last_among k most)

-- a block before the entries, in both forms
module _ (h : Header) (r s : Records) (k : ℕ) (there : k < block_total h) (before : k < first_block h 6) where
  abbrev kind : ℕ
  kind = kind_at h k

  kind_six : kind ≡ 6 → ⊥
  kind_six e = let l = subst (λ (n : ℕ). first_block h n ≤ k) e (block_among h k there).0 in omega arith

  alike : (row_of kind (kinds h) ≡ row_of kind (kinds (other_header h))) × (first_block h kind ≡ first_block (other_header h) kind)
  unfolding Alike-kind
  alike = rest_alike h kind (kind_known h k there) kind_six

  same_kind : kind_at (other_header h) k ≡ kind
  same_kind =
      let a = block_among h k there in
      let e : (row_of kind (kinds h)).blocks ≡ (row_of kind (kinds (other_header h))).blocks = ap (λ (r : Kind). r.blocks) alike.0 in
      sym (placed (other_header h) k kind (kind_known h k there) (omega (arith, alike.1)) (omega (arith, alike.1))).kind_is

  same_count : records_at (other_header h) k ≡ records_at h k
  unfolding records_at
  same_count =
      ap (λ (x : ℕ). min (per_block (other_header h) x) (in_all (other_header h) x - per_block (other_header h) x * (k - first_block (other_header h) x))) same_kind
      ∙ sym (ap₂ (λ (r : Kind) (f : ℕ). min (506 / r.width) (r.in_all - 506 / r.width * (k - f))) alike.0 alike.1)

  abbrev at : ℕ → ℕ
  at i = per_block h kind * (k - first_block h kind) + i

  same_in : ((i : ℕ) → i < records_at h k → r kind (at i) ≡ s kind (at i)) → (i : ℕ) → i < records_at h k → record_in h r k i ≡ record_in (other_header h) s k i
  unfolding record_in
  same_in e i l =
      e i l
      ∙ ap₂ (λ (r : Kind) (f : ℕ). s kind (506 / r.width * (k - f) + i)) alike.0 alike.1
      ∙ sym (ap (λ (x : ℕ). s x (per_block (other_header h) x * (k - first_block (other_header h) x) + i)) same_kind)

  pub same_block : ((i : ℕ) → i < records_at h k → r kind (at i) ≡ s kind (at i)) → built_block h r k ≡ built_block (other_header h) s k
  unfolding built_block block_front record_bytes
  same_block e =
      let bytes : flat_map (record_in h r k) (below (records_at h k)) ≡ flat_map (record_in (other_header h) s k) (below (records_at (other_header h) k)) =
      flat_map_same (record_in h r k) (record_in (other_header h) s k) (below (records_at h k)) (λ i m. same_in e i (below_from (records_at h k) i m))
      ∙ ap (λ (n : ℕ). flat_map (record_in (other_header h) s k) (below n)) (sym same_count) in
      λ i. (0 ∷ 0 ∷ sym same_kind i ∷ sym same_count i ∷ (bytes i ++ replicate (506 - length (bytes i)) 0)) ++ (0 ∷ 0 ∷ [])

-- the block of the header
head_block_lem : (h : Header) (r : Records) → r 1 0 ≡ header_bytes h → built_block h r 0 ≡ (0 ∷ 0 ∷ 1 ∷ 1 ∷ (header_bytes h ++ replicate 492 0)) ++ (0 ∷ 0 ∷ [])
unfolding built_block block_front record_bytes record_in kind_at records_at kinds header_bytes
head_block_lem h r e = ap (λ (b : List ℕ). (0 ∷ 0 ∷ 1 ∷ 1 ∷ ((b ++ []) ++ replicate (506 - length (b ++ [])) 0)) ++ (0 ∷ 0 ∷ [])) e

-- the first block, and its form written over
abbrev head_block : Header → List ℕ
head_block h = (0 ∷ 0 ∷ 1 ∷ 1 ∷ (header_bytes h ++ replicate 492 0)) ++ (0 ∷ 0 ∷ [])

abbrev with_form : ℕ → List ℕ → List ℕ
with_form form l = set (set l 2 (form % 256)) 3 (form / 256 % 256)

head_changed : (h : Header) → with_form (other_header h).form (inner (head_block h)) ≡ inner (head_block (other_header h))
unfolding inner header_bytes other_header
head_changed h = refl

-- what was copied and sealed again is the block of the converted image
module _ (image : List ℕ) (p : Passing image) (fifteen : T (one_ways image)) (sixteen : block_total (other_header (header image)) ≤ 128) (small : (i : ℕ) → byte image i < 256) where
  abbrev hh : Header
  hh = header image

  abbrev oo : Header
  oo = other_header (header image)

  abbrev rr : Records
  rr = other_records image

  was : (k : ℕ) → k < block_total hh → block image k ≡ sealed_block k (built_block hh (record_at image) k)
  was k there = block_is image small (of_true _ p.length_right_lem) (of_true _ p.checks_right) (of_true _ p.layout_right) k there

  kind_later : (k : ℕ) → 1 ≤ k → k < block_total hh → kind_at hh k ≡ 1 → ⊥
  unfolding kinds
  kind_later k some there e = let l = subst (λ (n : ℕ). k < first_block hh n + (row_of n (kinds hh)).blocks) e (block_among hh k there).1 in omega arith

  -- a later block stays as it is
  pub same_later : (k : ℕ) → 1 ≤ k → k < first_block hh 6 → sealed_block k (block image k) ≡ sealed_block k (built_block oo rr k)
  same_later k some before =
      let there : k < block_total hh = omega (arith, first_total hh) in
      let kind = kind_at hh k in
      let six = kind_six hh (record_at image) rr k there before in
      let at : ℕ → ℕ = λ i. per_block hh kind * (k - first_block hh kind) + i in
      let e = same_block hh (record_at image) rr k there before (λ i l. sym (one.record_rest image p fifteen sixteen kind (at i) (kind_later k some there) six)) in
      sealed_same k (block image k) (built_block oo rr k)
      (ap inner (was k there ∙ ap (sealed_block k) e) ∙ inner_sealed k (built_block oo rr k) (block_long oo rr sixteen (one.some image p fifteen sixteen) (one.sized image p fifteen sixteen) k))

  -- the first one with the other form
  first_there : 0 < block_total hh
  unfolding kinds block_total
  first_there = omega arith

  head_long : (g : Header) → length (head_block g) ≡ 512
  unfolding header_bytes
  head_long g = refl

  pub same_first : sealed_block 0 (set (set (block image 0) 4 (oo.form % 256)) 5 (oo.form / 256 % 256)) ≡ sealed_block 0 (built_block oo rr 0)
  same_first =
      let old = head_block_lem hh (record_at image) (header_record image small (one.is_laid image p fifteen sixteen)) in
      let new = head_block_lem oo rr (one.record_head image p fifteen sixteen 0) in
      let there = first_there in
      sealed_same 0 (set (set (block image 0) 4 (oo.form % 256)) 5 (oo.form / 256 % 256)) (built_block oo rr 0)
      (inner_set (block image 0) (oo.form % 256) (oo.form / 256 % 256)
      ∙ ap (with_form oo.form) (ap inner (was 0 there ∙ ap (sealed_block 0) old) ∙ inner_sealed 0 (head_block hh) (head_long hh))
      ∙ head_changed hh
      ∙ ap inner (sym new))

-- a block of entries, record by record: as the code leaves it
module _ (o : Header) (r : Records) (few : block_total o ≤ 128) (some : 1 ≤ block_total o) (sized : (kind i : ℕ) → i < in_all o kind → length (r kind i) ≡ record_width o kind) (k : ℕ)
    (six : kind_at o k ≡ 6) where
  pub entries_block : parts_to (0 ∷ 0 ∷ 6 ∷ records_at o k ∷ []) (record_in o r k) (record_width o 6) (0 ∷ 0 ∷ 6 ∷ records_at o k ∷ zeros 508) (records_at o k) ≡ built_block o r k
  unfolding parts_to built_block block_front record_bytes
  entries_block =
      let n = records_at o k in
      let w = record_width o 6 in
      let bytes = flat_map (record_in o r k) (below n) in
      let base : List ℕ = 0 ∷ 0 ∷ 6 ∷ n ∷ zeros 508 in
      let long : length bytes ≡ w * n = bytes_long o r few some sized k ∙ ap (λ (x : ℕ). record_width o x * n) six in
      let fits : w * n ≤ 506 = subst (λ (x : ℕ). record_width o x * n ≤ 506) six (records_fit o k) in
      let two : 508 - w * n ≡ 506 - length bytes + 2 = omega arith in
      let rest : drop (4 + w * n) base ≡ zeros (506 - length bytes) ++ (0 ∷ 0 ∷ []) =
      sym (drop-drop (w * n) 4 base) ∙ drop_zeros (w * n) 508 ∙ ap zeros two ∙ sym (replicate-append-replicate {A = ℕ} (506 - length bytes) 2 0) in
      ap (λ (l : List ℕ). 0 ∷ 0 ∷ 6 ∷ n ∷ (bytes ++ l)) rest
      ∙ ap (λ (l : List ℕ). 0 ∷ 0 ∷ 6 ∷ n ∷ l) (sym (append_assoc bytes (zeros (506 - length bytes)) (0 ∷ 0 ∷ [])))
      ∙ ap (λ (x : ℕ). (0 ∷ 0 ∷ x ∷ n ∷ (bytes ++ zeros (506 - length bytes))) ++ (0 ∷ 0 ∷ [])) (sym six)

entries_all : (h : Header) → in_all h 6 ≡ h.entries
unfolding kinds
entries_all h = refl

-- the same for an image that is to be converted, by the headers that the code holds
module _ {image : List ℕ} {h o : Header} (v : Converting image h o) where
  passing : Passing image
  passing = passing_of image v.ok

  pub o_is : o ≡ other_header (header image)
  o_is = v.other_is ∙ ap other_header v.header_is

  few_blocks : block_total (other_header (header image)) ≤ 128
  few_blocks = subst (λ (g : Header). block_total g ≤ 128) o_is v.few

  first_same : first_block (other_header (header image)) 6 ≡ first_block (header image) 6
  unfolding kinds other_header
  first_same = refl

  pub read_laid : Laid image (header image)
  read_laid = one.is_laid image passing v.one_ways_lem few_blocks

  module _ (k : ℕ) (before : k < first_block o 6) where
    among : k < first_block (header image) 6
    among = subst (λ (n : ℕ). k < n) (ap (λ (g : Header). first_block g 6) o_is ∙ first_same) before

    pub before_entries : 512 * k + 512 ≤ length image
    before_entries = omega (arith, among, first_total (header image), read_laid.whole)

    pub before_few : k < 128
    before_few = omega (arith, among, first_total (header image), read_laid.limits.blocks_most)

    module _ (small : (i : ℕ) → byte image i < 256) where
      abbrev Right : Header → ℕ → List ℕ → Type 0
      Right g k b = sealed_block k b ≡ sealed_block k (built_block g (other_records image) k)

      pub put_first : (b c : List ℕ) → k ≡ 0 → b ≡ block image k → c ≡ set (set b 4 (o.form % 256)) 5 (o.form / 256 % 256) → Right o k c
      put_first b c z is e =
          ap (sealed_block k) (e ∙ ap (λ (l : List ℕ). set (set l 4 (o.form % 256)) 5 (o.form / 256 % 256)) is)
          ∙ subst (λ (k : ℕ). Right o k (set (set (block image k) 4 (o.form % 256)) 5 (o.form / 256 % 256))) (sym z)
          (subst (λ (g : Header). Right g 0 (set (set (block image 0) 4 (g.form % 256)) 5 (g.form / 256 % 256))) (sym o_is) (same_first image passing v.one_ways_lem few_blocks small))

      pub put_later : (b : List ℕ) → (k ≡ 0 → ⊥) → b ≡ block image k → Right o k b
      put_later b n is =
          ap (sealed_block k) is
          ∙ subst (λ (g : Header). Right g k (block image k)) (sym o_is) (same_later image passing v.one_ways_lem few_blocks small k (some_of n) among)
        where
          some_of : (k ≡ 0 → ⊥) → 1 ≤ k
          some_of n = omega (arith, n)

  -- an entry that is to be put
  module _ (e : ℕ) (there : e < h.entries) where
    entry_there : e < (header image).entries
    entry_there = subst (λ (g : Header). e < g.entries) v.header_is there

    pub entry_asked : OneWay image h.form h.lexicons e
    entry_asked =
        subst (λ (g : Header). OneWay image g.form g.lexicons e) (sym v.header_is)
        (record {
          is_form = (read_laid.limits.form_least, read_laid.limits.form_most);
          right = (one.entry_parts image passing v.one_ways_lem few_blocks e entry_there).1;
          one = one.one_way image passing v.one_ways_lem few_blocks e entry_there;
        })

  -- the blocks of entries
  pub o_limits : Limited o
  o_limits = subst Limited (sym o_is) (one.limits image passing v.one_ways_lem few_blocks)

  o_sized : (kind i : ℕ) → i < in_all o kind → length (other_records image kind i) ≡ record_width o kind
  o_sized = subst (λ (g : Header). (kind i : ℕ) → i < in_all g kind → length (other_records image kind i) ≡ record_width g kind) (sym o_is) (one.sized image passing v.one_ways_lem few_blocks)

  o_some : 1 ≤ block_total o
  o_some = subst (λ (g : Header). 1 ≤ block_total g) (sym o_is) (one.some image passing v.one_ways_lem few_blocks)

  all_entries : in_all o 6 ≡ h.entries
  all_entries = ap (λ (g : Header). in_all g 6) v.other_is ∙ entries_other
    where
      entries_other : in_all (other_header h) 6 ≡ h.entries
      entries_other = sym (one.all_other h 6) ∙ entries_all h

  module _ (k : ℕ) (least : first_block o 6 ≤ k) (most : k < block_total o) where
    six : kind_at o k ≡ 6
    six = sym (entries_placed o k least most).kind_is

    pub few_here : record_width o 6 * records_at o k ≤ 506
    few_here = subst (λ (x : ℕ). record_width o x * records_at o k ≤ 506) six (records_fit o k)

    pub entry_number : (i : ℕ) → i < records_at o k → per_block o 6 * (k - first_block o 6) + i < h.entries
    entry_number i l = subst (λ (n : ℕ). per_block o 6 * (k - first_block o 6) + i < n) all_entries
        (subst (λ (x : ℕ). per_block o x * (k - first_block o x) + i < in_all o x) six (records_among o k i l))

    pub record_put : (i : ℕ) → record_in o (other_records image) k i ≡ other_entry h.form (entry image (per_block o 6 * (k - first_block o 6) + i))
    unfolding record_in
    record_put i =
        ap (λ (x : ℕ). other_records image x (per_block o x * (k - first_block o x) + i)) six
        ∙ one.record_entry image passing v.one_ways_lem few_blocks (per_block o 6 * (k - first_block o 6) + i)
        ∙ ap (λ (g : Header). other_entry g.form (entry image (per_block o 6 * (k - first_block o 6) + i))) (sym v.header_is)

    pub records_wide : (n : ℕ) → n ≤ records_at o k → Wide (record_width o 6) (record_in o (other_records image) k) (below n)
    unfolding record_in
    records_wide n l i m =
        let b = below_from n i m in
        o_sized (kind_at o k) (per_block o (kind_at o k) * (k - first_block o (kind_at o k)) + i) (records_among o k i (omega arith)) ∙ ap (record_width o) six

    pub block_made : parts_to (0 ∷ 0 ∷ 6 ∷ records_at o k ∷ []) (record_in o (other_records image) k) (record_width o 6) (0 ∷ 0 ∷ 6 ∷ records_at o k ∷ zeros 508) (records_at o k)
        ≡ built_block o (other_records image) k
    block_made = entries_block o (other_records image) v.few o_some o_sized k six

  pub image_made : flat_map (λ k. sealed_block k (built_block o (other_records image) k)) (below (block_total o)) ≡ converted_image image
  unfolding converted_image
  image_made = sym (built_blocks o (other_records image) v.few o_some o_sized) ∙ ap (λ (g : Header). built g (other_records image)) o_is

  pub blocks_wide : (n : ℕ) → Wide 512 (λ k. sealed_block k (built_block o (other_records image) k)) (below n)
  blocks_wide n k m = length_sealed k (built_block o (other_records image) k) (block_long o (other_records image) v.few o_some o_sized k)

pub other_counted : (h : Header) → Limited h → Counted (other_header h)
unfolding other_header
other_counted h l = record {
  letters_least = l.letters_least;
  letters_most = l.letters_most;
  pairs_least = l.pairs_least;
  pairs_most = l.pairs_most;
  rules_most = l.rules_most;
  lexicons_least = l.lexicons_least;
  lexicons_most = l.lexicons_most;
  entries_least = l.entries_least;
  entries_most = l.entries_most;
  sets_most = l.sets_most;
}
