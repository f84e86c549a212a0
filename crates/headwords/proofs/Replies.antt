-- What the copied letters take: a form's letters, by its reply.
use Prim.Native.Nat.{ℕ, ◌<◌, ◌≤◌}
use native.Mathlib.Omega.{arith}
use mathlib.Core.Path.{◌≡◌, refl, ap, ◌∙◌}
use mathlib.Core.List.{List, ◌++◌}
use lib.ListN.{length, drop}
use lib.Dec.{leb}
use borrow.Author.Tests.{le-leb, lt-leb}
use Rattle.model.specs.Beside.{form_reply, viewed}
use Rattle.model.specs.Beside as beside
use Rattle.grammar.proofs.Verdicts.{view_agrees}
use Rattle.headwords.specs.Numbers.{after_form}

-- the form's reply and bytes: refused, no room, room
module _ (image : List ℕ) (e : ℕ) (out : List ℕ) where
  pub form_refused : (k : ℕ) → form_reply image e ≡ beside.FormReply.refused k → out ≡ after_form (viewed image e) out
  form_refused k f = rw ((view_agrees image e).refused_none k f, le-leb 0 (length out) (omega arith)) refl

  module _ (n : ℕ) (f : form_reply image e ≡ beside.FormReply.letters n) where
    pub letters_are : length (viewed image e) ≡ n
    letters_are = (view_agrees image e).told n f

    pub form_short : length out < n → out ≡ after_form (viewed image e) out
    form_short h = rw (letters_are, lt-leb n (length out) h) refl

    pub form_fits : n ≤ length out → viewed image e ++ drop (length (viewed image e)) out ≡ after_form (viewed image e) out
    form_fits h = rw (ap (λ (m : ℕ). leb m (length out)) letters_are ∙ le-leb n (length out) h) refl
