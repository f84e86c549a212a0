-- `look` meets its contract.
use Rattle.model.specs.Query.{Pattern, Query, anything}
use Rattle.listing.specs.Asked.{word_query}
use Rattle.ahead.proofs.FirstLetters.{entered_head, seen_empty, seen_some, seen_none}
use Rattle.ahead.proofs.starts.look.Goals as goal
use Rattle.ahead.proofs.starts.look.Goals.{Start}

abbrev query : Start → Pattern → Query
query s = word_query s.args.asked s.args.word.now

pub returns-then-letter-eq0 : goal.returns-then-letter-eq0
returns-then-letter-eq0 c t =
    let a = c.args in
    seen_empty a.image.now (query (goal.at.returns-then-letter-eq0 c).Start t) a.place a.e a.letter.0 c.if-letter-eq0.true

pub enter-next-requires : goal.enter-next-requires
enter-next-requires c = record { accepted = c.requires.accepted; standing = c.requires.standing; e_lt_entries = c.requires.e_lt_entries.0 }

pub can_start-requires : goal.can_start-requires
can_start-requires c =
    let a = c.args in
    let head = entered_head a.image.now (query (goal.at.can_start-requires c).Start anything) a.place a.e a.letter.0 c.enter-next.result c.enter-next.ensures.go c.requires.e_lt_entries.1.0 in
    record { accepted = c.requires.accepted; index_value = c.requires.index_value; standing = c.enter-next.ensures.stands; letter_value = (head, c.requires.e_lt_entries.1.1) }

pub returns-then-can_start : goal.returns-then-can_start
returns-then-can_start c t =
    let a = c.args in
    seen_some a.image.now (query (goal.at.returns-then-can_start c).Start t) a.place a.e a.letter.0 c.if-letter-eq0.false c.enter-next.result c.enter-next.ensures.go c.can_start.result (c.can_start.ensures t) c.if-can_start.true

pub returns : goal.returns
returns c t =
    let a = c.args in
    seen_none a.image.now (query (goal.at.returns c).Start t) a.place a.e a.letter.0 c.if-letter-eq0.false c.enter-next.result c.enter-next.ensures.go c.can_start.result (c.can_start.ensures t) c.if-can_start.false
