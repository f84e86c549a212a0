-- `filter::choose` meets its contract: where any path will do, the lexicons that come next are a set, and the survivors of its lexicons are all that lead on.
use Prim.Native.Nat.{ℕ, ◌^◌, ◌≤◌}
use native.Mathlib.Omega.{arith}
use mathlib.Core.Logic.{⊎_elim}
use mathlib.Core.Bool.{true≢false}
use mathlib.Core.Path.{◌≡◌, refl, sym, ap, ◌∙◌, subst}
use mathlib.Core.List.{List}
use lib.Dec.{eqb}
use lib.ListN.{length, take}
use Rattle.std.specs.Prelude.{Option, None, Some, IfSome}
use Rattle.model.specs.Blocks.{Header}
use Rattle.model.specs.Query.{Pattern, anything}
use Rattle.listing.specs.declared.asked.PathAsked.{PathAsked}
use Rattle.listing.specs.Asked.{path_pattern}
use Rattle.listing.specs.Opening.{Known}
use Rattle.forms.specs.Forms.{flags_in}
use Rattle.filter.specs.Sieve.{Sieved, Chosen}
use Rattle.filter.specs.Survivors.{SurvivingSet}
use Rattle.filter.proofs.Choosing.{set_chosen}
use Rattle.filter.proofs.choose.Goals as goal
use Rattle.filter.proofs.choose.Goals.{After-set_on-bits}

-- what is asked of the path, where any will do
any_path : (asked : PathAsked) (path : List ℕ) → asked ≡ PathAsked.Anything → path_pattern asked path ≡ anything
unfolding path_pattern
any_path asked path e = rw e refl

-- any path will do, and there is an index of forms: the lexicons that come next
module _ (c : After-set_on-bits) where
  abbrev bits : ℕ
  bits = c.set_on-bits.result

  some : length c.args.forms.now ≡ 0 → ⊥
  some e = true≢false (sym (c.is_empty.ensures ∙ ap (λ (n : ℕ). eqb n 0) e) ∙ c.if-is_empty.false)

  sieved : Sieved c.args.image.now c.requires.sieve.0 c.args.forms.now c.args.masks.now c.args.reach.now
  sieved = ⊎_elim (λ e. absurd (some e)) (λ r. r) c.requires.sieve.1

  told : path_pattern c.args.asked c.args.path.now ≡ anything
  told = any_path c.args.asked c.args.path.now c.in-Anything.is

  known : Known bits c.args.h.lexicons
  known = subst (λ (g : Header). Known bits g.lexicons) (sym c.requires.accepted.laid.header_is) c.set_on-bits.ensures.known

  abbrev ChosenBy : Pattern → List ℕ → Type 0
  ChosenBy path xs = Chosen c.args.image.now path c.args.forms.now c.args.masks.now c.args.reach.now c.args.last (2 ^ c.args.letters) xs

  -- what is told of a list where `many` is answered
  abbrev Told : Option ℕ → List ℕ → Type 0
  Told many list = IfSome many (λ n. (n ≤ 64) × ChosenBy (path_pattern c.args.asked c.args.path.now) (take n list))

  abbrev Survive : ℕ → List ℕ → Type 0
  Survive set xs = SurvivingSet c.args.image.now c.args.masks.now (flags_in c.args.forms.now) c.args.reach.now (2 ^ c.args.letters) set xs

  all_chosen : (xs : List ℕ) → Survive bits xs → ChosenBy anything xs
  all_chosen =
      set_chosen c.args.image.now c.args.forms.now c.args.masks.now c.args.reach.now c.args.last (2 ^ c.args.letters) bits some c.set_on-bits.ensures

  chosen : (many : Option ℕ) (list : List ℕ) → IfSome many (λ n. (n ≤ length c.args.list.now) × Survive bits (take n list)) → Told many list
  chosen None list u = tt
  chosen (Some n) list u =
      (omega (arith, u.0, c.requires.letters_bound.1), subst (λ path. ChosenBy path (take n list)) (sym told) (all_chosen (take n list) u.1))

pub set_on-bits-requires : goal.set_on-bits-requires
set_on-bits-requires c = record { accepted = c.requires.accepted; fact = c.requires.fact }

pub choose_each-requires : goal.choose_each-requires
choose_each-requires c =
    let after = (goal.at.choose_each-requires c).After-set_on-bits in
    let sets = sieved after in
    record {
      accepted = c.requires.accepted;
      index_value = c.requires.index_value;
      forms_of = sets.forms_of_lem;
      filled = (sets.filled, sets.reached);
      known = (known after, (c.requires.letters_bound.0, omega (arith, c.requires.letters_bound.1)));
    }

pub returns-in-Anything : goal.returns-in-Anything
returns-in-Anything c = chosen (goal.at.returns-in-Anything c).After-set_on-bits c.choose_each.result _ c.choose_each.ensures
