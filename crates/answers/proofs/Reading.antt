-- A line as it comes in: what its first bytes tell of it, and the input in parts.
use Prim.Native.Nat.{ℕ, suc, ◌+◌, ◌-◌, ◌<◌, ◌≤◌, min}
use native.Mathlib.Omega.{arith}
use native.Mathlib.Decide.{ℕ_discrete}
use mathlib.Core.Bool.{Bool, true, false, cond}
use mathlib.Core.Path.{◌≡◌, refl, sym, ap, ◌∙◌, subst}
use mathlib.Core.List.{List, [], ◌∷◌, ◌++◌, append_assoc, append-nil}
use lib.ListN.{length, get_or, take, drop, length-take, length-drop}
use lib.Seq.{take_all, take-suc, get_or-drop}
use lib.Dec.{eqb}
use borrow.Author.Tests.{lt-leb, eq-eqb, ne_eqb}
use Rattle.std.specs.Prelude.{Option, Some, None}
use Rattle.std.specs.Option.{unwrap_or}
use Rattle.model.specs.Lists.{flat_map}
use Rattle.model.specs.Query.{analysis}
use Rattle.model.specs.Refusals.{refused, image_tests, image_verdict, own_tests, request_tests}
use Rattle.model.specs.Rows.{Reply}
use Rattle.model.specs.Calls.{request_verdict, listing_reply, listing_rows}
use Rattle.model.specs.Lines as lines
use Rattle.model.specs.Lines.{line_of, lines_from, lines_of, printed_reply, printed_line, printed}
use Rattle.model.proofs.Tests.{tests_refused}
use Rattle.print.specs.Text.{Put}
use Rattle.print.proofs.Text.{put_none, put_same, put_then}
use Rattle.parse.specs.Fields.{Begun, line_after}
use Rattle.answers.specs.Answered.{WordAnswered, LineAnswered}
use Rattle.answers.specs.declared.input.Reached.{Reached}
use Rattle.answers.specs.Input.{begun_after, buffer_after, Grown, text_after, last_text, Passed}

-- a line over 255 bytes holds no word
long_unread : (l : List ℕ) → 255 < length l → line_of l ≡ lines.unread
unfolding line_of
long_unread [] h = absurd (omega arith)
long_unread (b ∷ bs) h = rw (lt-leb (length (b ∷ bs)) 255 h) refl

-- the first 256 bytes of a line tell whether it is over 255 bytes, and all of it where it is not
module _ (first l : List ℕ) (same : first ≡ take 256 l) where
  first_length : length first ≡ min 256 (length l)
  first_length = ap length same ∙ length-take 256 l

  pub first_long : 255 < length first → line_of l ≡ lines.unread
  first_long h = long_unread l (omega (arith, first_length))

  pub first_whole : length first ≤ 255 → first ≡ l
  first_whole h = same ∙ take_all 256 l (omega (arith, first_length))

-- on a refused image every word gets the refusal
pub refused_line : (image word : List ℕ) (k : ℕ) → image_verdict image ≡ refused k → printed_reply (Reply.refused k) ≡ printed_line image (lines.letters word)
unfolding printed_line listing_reply listing_rows request_verdict request_tests image_verdict
refused_line image word k e = rw (tests_refused (image_tests image) (own_tests image (analysis word)) k e) (sym (append-nil (printed_reply (Reply.refused k))))

-- the answer to a word is that to its line
pub word_line : (image before after : List ℕ) (at : ℕ) (word first : List ℕ) → ((l : List ℕ) → first ≡ take 256 l → lines.letters word ≡ line_of l)
    → (r : Option ℕ) → WordAnswered image before after at word r → LineAnswered image before after at first r
word_line image before after at word first same (Some end) h = (λ l e. put_same (ap (printed_line image) (same l e)) h.0, h.1)
word_line image before after at word first same None h = h

pub begun_nothing : (buffer : List ℕ) → Begun buffer 0 []
begun_nothing buffer = record { many = refl; bytes = refl }

-- one byte
module _ (image line : List ℕ) (b : ℕ) where
  pub end_grown : (buffer : List ℕ) → b ≡ 10 → Grown buffer buffer 0 line (b ∷ [])
  end_grown buffer e = record { begun = rw (eq-eqb b 10 e) (begun_nothing buffer); same = rw (eq-eqb b 10 e) refl }

  pub end_text : b ≡ 10 → printed_line image (line_of line) ≡ text_after image line (b ∷ [])
  end_text e = rw (eq-eqb b 10 e) (sym (append-nil (printed_line image (line_of line))))

  pub byte_grown : (before after : List ℕ) (n kept : ℕ) → (b ≡ 10 → ⊥) → Begun before n line → Begun after kept (line ++ (b ∷ [])) → after ≡ line_after before n b
      → Grown before after kept line (b ∷ [])
  byte_grown before after n kept e h g f = record { begun = rw (ne_eqb b 10 e) g; same = rw (ne_eqb b 10 e) (f ∙ ap (λ (m : ℕ). line_after before m b) h.many) }

  pub byte_text : (b ≡ 10 → ⊥) → [] ≡ text_after image line (b ∷ [])
  byte_text e = rw (ne_eqb b 10 e) refl

-- the last line
pub last_none : (image buffer : List ℕ) (n : ℕ) (l : List ℕ) → Begun buffer n l → n ≡ 0 → [] ≡ last_text image l
last_none image buffer n [] b e = refl
last_none image buffer n (x ∷ l) b e = absurd (omega (arith, b.many))

pub last_some : (image buffer : List ℕ) (n : ℕ) (l : List ℕ) → Begun buffer n l → (n ≡ 0 → ⊥) → printed_line image (line_of l) ≡ last_text image l
last_some image buffer n [] b e = absurd (e b.many)
last_some image buffer n (x ∷ l) b e = refl

-- its answer does not wait where nothing stands before it
pub last_told : (image before after first : List ℕ) (answer : Option ℕ) (end : ℕ) → end ≡ unwrap_or answer 0 → LineAnswered image before after 0 first answer
    → ((l : List ℕ) → first ≡ take 256 l → Put before after 0 end (printed_line image (line_of l))) × (end ≤ 22032)
last_told image before after first (Some n) end e h = (λ l f. rw e (h.0 l f), omega (arith, h.1))
last_told image before after first None end e h = absurd (omega (arith, h.some))

-- the input in parts
pub begun_parts : (line xs ys : List ℕ) → begun_after line (xs ++ ys) ≡ begun_after (begun_after line xs) ys
begun_parts line [] ys = refl
begun_parts line (b ∷ xs) ys = go (eqb b 10) (begun_parts [] xs ys) (begun_parts (line ++ (b ∷ [])) xs ys)
  where
    go : (t : Bool) → begun_after [] (xs ++ ys) ≡ begun_after (begun_after [] xs) ys → begun_after (line ++ (b ∷ [])) (xs ++ ys) ≡ begun_after (begun_after (line ++ (b ∷ [])) xs) ys
        → cond t (begun_after [] (xs ++ ys)) (begun_after (line ++ (b ∷ [])) (xs ++ ys)) ≡ begun_after (cond t (begun_after [] xs) (begun_after (line ++ (b ∷ [])) xs)) ys
    go true p q = p
    go false p q = q

pub buffer_parts : (buffer line xs ys : List ℕ) → buffer_after buffer line (xs ++ ys) ≡ buffer_after (buffer_after buffer line xs) (begun_after line xs) ys
buffer_parts buffer line [] ys = refl
buffer_parts buffer line (b ∷ xs) ys = go (eqb b 10) (buffer_parts buffer [] xs ys) (buffer_parts kept more xs ys)
  where
    kept : List ℕ
    kept = line_after buffer (min (length line) 256) b

    more : List ℕ
    more = line ++ (b ∷ [])

    go : (t : Bool) → buffer_after buffer [] (xs ++ ys) ≡ buffer_after (buffer_after buffer [] xs) (begun_after [] xs) ys
        → buffer_after kept more (xs ++ ys) ≡ buffer_after (buffer_after kept more xs) (begun_after more xs) ys
        → cond t (buffer_after buffer [] (xs ++ ys)) (buffer_after kept more (xs ++ ys))
        ≡ buffer_after (cond t (buffer_after buffer [] xs) (buffer_after kept more xs)) (cond t (begun_after [] xs) (begun_after more xs)) ys
    go true p q = p
    go false p q = q

module _ (image : List ℕ) where
  pub text_parts : (line xs ys : List ℕ) → text_after image line (xs ++ ys) ≡ text_after image line xs ++ text_after image (begun_after line xs) ys
  text_parts line [] ys = refl
  text_parts line (b ∷ xs) ys = go (eqb b 10) (text_parts [] xs ys) (text_parts (line ++ (b ∷ [])) xs ys)
    where
      go : (t : Bool) → text_after image [] (xs ++ ys) ≡ text_after image [] xs ++ text_after image (begun_after [] xs) ys
          → text_after image (line ++ (b ∷ [])) (xs ++ ys) ≡ text_after image (line ++ (b ∷ [])) xs ++ text_after image (begun_after (line ++ (b ∷ [])) xs) ys
          → cond t (printed_line image (line_of line) ++ text_after image [] (xs ++ ys)) (text_after image (line ++ (b ∷ [])) (xs ++ ys))
          ≡ cond t (printed_line image (line_of line) ++ text_after image [] xs) (text_after image (line ++ (b ∷ [])) xs)
          ++ text_after image (cond t (begun_after [] xs) (begun_after (line ++ (b ∷ [])) xs)) ys
      go true p q = ap (λ (l : List ℕ). printed_line image (line_of line) ++ l) p
          ∙ sym (append_assoc (printed_line image (line_of line)) (text_after image [] xs) (text_after image (begun_after [] xs) ys))
      go false p q = q

  abbrev all_text : List (List ℕ) → List ℕ
  all_text = flat_map (λ line. printed_line image (line_of line))

  -- what the line program prints for a whole input is the text of the lines that end in it and of the last one
  printed_from : (line input : List ℕ) → flat_map (λ line. printed_line image (line_of line)) (lines_from line input) ≡ text_after image line input ++ last_text image (begun_after line input)
  unfolding lines_from
  printed_from [] [] = refl
  printed_from (x ∷ line) [] = append-nil (printed_line image (line_of (x ∷ line)))
  printed_from line (b ∷ input) = go (eqb b 10) (printed_from [] input) (printed_from (line ++ (b ∷ [])) input)
    where
      go : (t : Bool) → all_text (lines_from [] input) ≡ text_after image [] input ++ last_text image (begun_after [] input)
          → all_text (lines_from (line ++ (b ∷ [])) input) ≡ text_after image (line ++ (b ∷ [])) input ++ last_text image (begun_after (line ++ (b ∷ [])) input)
          → all_text (cond t (line ∷ lines_from [] input) (lines_from (line ++ (b ∷ [])) input))
          ≡ cond t (printed_line image (line_of line) ++ text_after image [] input) (text_after image (line ++ (b ∷ [])) input)
          ++ last_text image (cond t (begun_after [] input) (begun_after (line ++ (b ∷ [])) input))
      go true p q = ap (λ (l : List ℕ). printed_line image (line_of line) ++ l) p
          ∙ sym (append_assoc (printed_line image (line_of line)) (text_after image [] input) (last_text image (begun_after [] input)))
      go false p q = q

  pub printed_is : (input : List ℕ) → printed image input ≡ text_after image [] input ++ last_text image (begun_after [] input)
  unfolding printed lines_of
  printed_is input = printed_from [] input

-- how far a chunk is read: the line begun, and the text put
pub record Progress (image chunk line₀ out₀ : List ℕ) (at kept₀ end₀ : ℕ) (line out : List ℕ) (i kept end : ℕ) : Type 0 where
  pub in_order : at ≤ i
  pub kept_few : kept ≤ 256
  pub out_same : length out ≡ length out₀
  pub end_in : end ≤ length out₀
  pub grown : (l : List ℕ) → Begun line₀ kept₀ l → Grown line₀ line kept l (take (i - at) (drop at chunk))
  pub text : (l : List ℕ) → Begun line₀ kept₀ l → Put out₀ out end₀ end (text_after image l (take (i - at) (drop at chunk)))
  pub start : i ≡ at → end ≡ end₀

pub progress_none : (image chunk line₀ out₀ : List ℕ) (at kept₀ end₀ : ℕ) → kept₀ ≤ 256 → end₀ ≤ length out₀
    → Progress image chunk line₀ out₀ at kept₀ end₀ line₀ out₀ at kept₀ end₀
progress_none image chunk line₀ out₀ at kept₀ end₀ k e =
    let z : at - at ≡ 0 = omega arith in
    record {
      in_order = omega arith;
      kept_few = k;
      out_same = refl;
      end_in = e;
      grown = λ l b. rw z (record { begun = b; same = refl });
      text = λ l b. rw z (put_none out₀ end₀);
      start = λ f. refl;
    }

module _ (image chunk line₀ out₀ : List ℕ) (at kept₀ end₀ : ℕ) (line out : List ℕ) (i kept end : ℕ) (done : Progress image chunk line₀ out₀ at kept₀ end₀ line out i kept end) where
  more_bytes : i < length chunk → take (i + 1 - at) (drop at chunk) ≡ take (i - at) (drop at chunk) ++ (get_or chunk i 0 ∷ [])
  more_bytes inside =
      let w : i + 1 - at ≡ suc (i - at) = omega (arith, done.in_order) in
      let k : i - at < length (drop at chunk) = omega (arith, length-drop at chunk, done.in_order) in
      let v : at + (i - at) ≡ i = omega (arith, done.in_order) in
      ap (λ (n : ℕ). take n (drop at chunk)) w
      ∙ take-suc (drop at chunk) (i - at) 0 k
      ∙ ap (λ (x : ℕ). take (i - at) (drop at chunk) ++ (x ∷ [])) (get_or-drop at chunk (i - at) 0 ∙ ap (λ (n : ℕ). get_or chunk n 0) v)

  -- a byte more
  pub progress_more : {line' out' : List ℕ} {to from : Reached} → i < length chunk → from.kept ≡ kept → from.end ≡ end → end + 22032 ≤ length out₀ → length out' ≡ length out
      → Passed image line line' out out' from (get_or chunk i 0) to
      → Progress image chunk line₀ out₀ at kept₀ end₀ line' out' (i + 1) to.kept to.end
  progress_more {line'} {out'} {to} {from} inside e f room same read =
      record {
        in_order = omega (arith, done.in_order);
        kept_few = read.kept_few;
        out_same = same ∙ done.out_same;
        end_in = omega (arith, read.end_near);
        grown = λ l b. grown_more l b;
        text = λ l b. put_same (sym (ap (text_after image l) (more_bytes inside) ∙ text_parts image l xs (get_or chunk i 0 ∷ []))) (put_then (done.text l b) (text_now l b));
        start = λ z. absurd (omega (arith, done.in_order));
      }
    where
      xs : List ℕ
      xs = take (i - at) (drop at chunk)

      begun_now : (l : List ℕ) → Begun line₀ kept₀ l → Begun line from.kept (begun_after l xs)
      begun_now l b = rw e (done.grown l b).begun

      text_now : (l : List ℕ) → Begun line₀ kept₀ l → Put out out' end to.end (text_after image (begun_after l xs) (get_or chunk i 0 ∷ []))
      text_now l b = rw f at (read.text (begun_after l xs) (begun_now l b))

      grown_more : (l : List ℕ) → Begun line₀ kept₀ l → Grown line₀ line' to.kept l (take (i + 1 - at) (drop at chunk))
      grown_more l b =
          let then = read.grown (begun_after l xs) (begun_now l b) in
          record {
            begun = subst (Begun line' to.kept) (sym (ap (begun_after l) (more_bytes inside) ∙ begun_parts l xs (get_or chunk i 0 ∷ []))) then.begun;
            same = then.same
                ∙ ap (λ (m : List ℕ). buffer_after m (begun_after l xs) (get_or chunk i 0 ∷ [])) (done.grown l b).same
                ∙ sym (ap (buffer_after line₀ l) (more_bytes inside) ∙ buffer_parts line₀ l xs (get_or chunk i 0 ∷ []));
          }

  -- nothing is changed
  pub progress_same : {line' out' : List ℕ} → line' ≡ line → out' ≡ out → Progress image chunk line₀ out₀ at kept₀ end₀ line' out' i kept end
  progress_same e f = rw (e, f) done

  -- text that was not there at first is the text of what was read
  pub moved : end₀ ≡ 0 → 0 < end → at < i
  moved h k = go (ℕ_discrete i at)
    where
      go : Dec (i ≡ at) → at < i
      go (yes e) = absurd (omega (arith, done.start e))
      go (no e) = omega (arith, done.in_order)
