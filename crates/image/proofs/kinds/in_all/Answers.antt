-- `in_all` meets its contract, kind by kind.
use mathlib.Core.Path.{refl}
use Rattle.model.specs.Blocks.{kinds}
use Rattle.image.proofs.kinds.in_all.Goals as goal

pub returns-in-Header : goal.returns-in-Header
unfolding kinds
returns-in-Header c = rw c.in-Header.is refl

pub returns-in-Letters : goal.returns-in-Letters
unfolding kinds
returns-in-Letters c = rw c.in-Letters.is refl

pub returns-in-Pairs : goal.returns-in-Pairs
unfolding kinds
returns-in-Pairs c = rw c.in-Pairs.is refl

pub returns-in-Tables : goal.returns-in-Tables
unfolding kinds
returns-in-Tables c = rw c.in-Tables.is refl

pub returns-in-Lexicons : goal.returns-in-Lexicons
unfolding kinds
returns-in-Lexicons c = rw c.in-Lexicons.is refl

pub returns-in-Entries : goal.returns-in-Entries
unfolding kinds
returns-in-Entries c = rw c.in-Entries.is refl

pub returns-in-Sets : goal.returns-in-Sets
unfolding kinds
returns-in-Sets c = rw c.in-Sets.is refl
