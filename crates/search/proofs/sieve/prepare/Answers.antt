-- `prepare` meets its contract: with no index of forms, or any word, nothing is known.
use native.Mathlib.Omega.{arith}
use mathlib.Core.Logic.{inl, inr, ⊎_elim}
use mathlib.Core.Path.{refl, sym, subst}
use lib.ListN.{length, take}
use lib.Seq.{take-length}
use Rattle.model.specs.Query.{Pattern}
use Rattle.listing.specs.declared.asked.WordAsked.{WordAsked}
use Rattle.listing.specs.Asked.{word_query}
use Rattle.filter.specs.Sieve.{Sieved}
use Rattle.search.proofs.sieve.prepare.Goals as goal
use Rattle.search.proofs.sieve.prepare.Goals.{In-Exactly}

pub returns-then-many-eq0 : goal.returns-then-many-eq0
returns-then-many-eq0 c = (omega arith, λ path. inl refl)

pub prepare-requires : goal.prepare-requires
prepare-requires c =
    let forms = ⊎_elim (λ e. absurd (c.if-many-eq0.false e)) (λ f. f) c.requires.may_be.0 in
    record { accepted = c.requires.accepted; index_value = c.requires.index_value; forms_of = forms; writable = c.requires.may_be.1; masks_value = c.requires.masks_value }

pub returns-in-Anything : goal.returns-in-Anything
returns-in-Anything c = (omega arith, λ path. inl refl)

-- the whole index of forms
pub returns-in-Exactly : goal.returns-in-Exactly
returns-in-Exactly c =
    let a = c.args in
    let made = c.prepare in
    let forms = a.forms.now in
    let masks = made.new.masks in
    let reach = made.new.reach in
    let sieved : Pattern → WordAsked → Type 0 = λ path w. Sieved a.image.now (word_query w a.word.now path) (take (length forms) forms) masks reach in
    (omega arith, λ path. inr (subst (sieved path) (sym c.in-Exactly.is) (rw (take-length forms) (made.ensures path))))
