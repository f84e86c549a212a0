-- `first_letter` meets its contract.
use mathlib.Core.Path.{◌∙◌, subst, sym, ap}
use Prim.Native.Nat.{ℕ, ◌+◌, ◌≤◌}
use Rattle.model.specs.Lists.{byte}
use Rattle.image.specs.Header.{header_of}
use Rattle.ahead.proofs.FirstLetters.{first_inside, first_is, first_most}
use Rattle.ahead.proofs.starts.first_letter.Goals as goal

pub lexical_at-requires : goal.lexical_at-requires
lexical_at-requires c =
    let a = c.args in
    rw c.entry_start.ensures.0 (first_inside a.image.now (header_of a.h) c.requires.accepted a.e c.requires.e_lt_entries)

pub returns : goal.returns
returns c =
    let a = c.args in
    let image = a.image.now in
    let h = header_of a.h in
    let e = c.lexical_at.ensures ∙ ap (λ (i : ℕ). byte image (i + 1)) c.entry_start.ensures.0 ∙ first_is image h c.requires.accepted a.e c.requires.e_lt_entries in
    (e, subst (λ (x : ℕ). x ≤ h.letters) (sym e) (first_most image h c.requires.accepted a.e c.requires.e_lt_entries))
