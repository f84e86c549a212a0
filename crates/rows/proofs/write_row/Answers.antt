-- `write_row` meets its contract: a blank row has none of its numbers, and after the pairs it has all.
use borrow.Author.Rules.{rules}
use mathlib.Core.Path.{◌≡◌, ap, ◌∙◌}
use Prim.Native.Nat.{ℕ}
use lib.ListN.{length, replicate}
use Rattle.rows.specs.Trail.{reading_of, row_up_to}
use Rattle.rows.proofs.Bytes.{up_to_none, up_to_all}
use Rattle.rows.proofs.Written.{entries_written, entry_written, entries_rest, pairs_written, pair_written, pairs_rest}
use Rattle.rows.proofs.write_row.Goals as goal

pub returns : goal.returns
returns c =
    let t = c.args.t in
    let r = reading_of t in
    let short = c.requires.1 in
    let sixteen : length t.path ≡ 16 = search rules in
    let forty : length t.pairing ≡ 40 = search rules in
    let blank : c.fill.new.self ≡ row_up_to r 0 = c.fill.ensures.after (λ y e. e) ∙ ap (λ (n : ℕ). replicate n 255) c.requires.0 ∙ up_to_none r in
    let entries : c.write_list.new.row ≡ row_up_to r 17 =
    c.write_list.ensures r (record { before = blank; count = entries_written t short sixteen; numbers = λ i m h e. search (rules, entry_written t short sixteen) }) ∙ entries_rest t short in
    c.write_list-2.ensures r (record { before = entries; count = pairs_written t short forty; numbers = λ i m h e. search (rules, pair_written t short forty) }) ∙ pairs_rest t short ∙ up_to_all r
