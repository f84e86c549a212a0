-- `ends_letters` meets its contract.
use mathlib.Core.Path.{refl}
use Rattle.listing.specs.Asked.{word_pattern}
use Rattle.listing.proofs.asked.ends_letters.Goals as goal

pub returns-in-Anything : goal.returns-in-Anything
unfolding word_pattern
returns-in-Anything c = rw c.in-Anything.is refl

pub returns-in-Exactly : goal.returns-in-Exactly
unfolding word_pattern
returns-in-Exactly c = rw c.in-Exactly.is refl
