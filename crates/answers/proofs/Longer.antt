-- A file that is longer than an image can be: by its first 65,537 bytes as much is printed as by all of it, so no more of it is read.
use Prim.Native.Nat.{ℕ, ◌<◌}
use native.Mathlib.Omega.{arith}
use native.Mathlib.Decide.{dec_lt}
use mathlib.Core.Path.{◌≡◌, refl, sym, ap, ◌∙◌}
use mathlib.Core.List.{List}
use lib.ListN.{length, take, length-take}
use lib.Seq.{take_all}
use borrow.Author.Tests.{le-leb, lt-leb}
use Rattle.model.specs.Refusals.{refused, right_length, format_tests, image_tests, image_verdict}
use Rattle.model.specs.Lines as lines
use Rattle.model.specs.Lines.{line_of, lines_of, printed_line, printed}
use Rattle.model.proofs.Parts.{flat_map_same}
use Rattle.answers.proofs.Reading.{refused_line}

long_refused : (image : List ℕ) → 65536 < length image → image_verdict image ≡ refused 1
unfolding image_verdict image_tests format_tests right_length
long_refused image h = rw (le-leb 1 (length image) (omega arith), lt-leb (length image) 65536 h) refl

-- two images that are refused alike
line_same : (a b : List ℕ) (k : ℕ) → image_verdict a ≡ refused k → image_verdict b ≡ refused k → (l : lines.Line) → printed_line a l ≡ printed_line b l
unfolding printed_line
line_same a b k e f (lines.letters w) = sym (refused_line a w k e) ∙ refused_line b w k f
line_same a b k e f lines.unread = refl

pub printed_by_first : (file input : List ℕ) → printed (take 65537 file) input ≡ printed file input
unfolding printed
printed_by_first file input = go (dec_lt 65536 (length file))
  where
    go : Dec (65536 < length file) → printed (take 65537 file) input ≡ printed file input
    go (yes h) =
        let first = long_refused (take 65537 file) (omega (arith, length-take 65537 file)) in
        let all = long_refused file h in
        flat_map_same (λ line. printed_line (take 65537 file) (line_of line)) (λ line. printed_line file (line_of line)) (lines_of input) (λ line m. line_same (take 65537 file) file 1 first all (line_of line))
    go (no h) = ap (λ (f : List ℕ). printed f input) (take_all 65537 file (omega arith))
