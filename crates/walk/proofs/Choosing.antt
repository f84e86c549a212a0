-- What the filter leaves, where it was asked, is all that finds something.
use Prim.Native.Nat.{ℕ, ◌<◌, ◌^◌}
use mathlib.Core.Logic.{⊎_elim}
use mathlib.Core.Path.{◌≡◌}
use mathlib.Core.List.{List}
use lib.ListN.{length}
use Rattle.model.specs.Blocks.{header}
use Rattle.model.specs.Query.{Query}
use Rattle.rows.specs.declared.Trail.{Trail}
use Rattle.listing.specs.declared.place.Place.{Place}
use Rattle.forms.specs.Forms.{flags_in}
use Rattle.filter.specs.Sieve.{Sieved, Sieve, Chosen}
use Rattle.filter.proofs.Words.{one_has}
use Rattle.filter.proofs.Listed.{rising_in}
use Rattle.filter.proofs.Openings.{survivors_found}
use Rattle.walk.specs.Listed.{Listed}

sieved : {image forms masks reach : List ℕ} {q : Query} → Sieve image q forms masks reach → (length forms ≡ 0 → ⊥) → Sieved image q forms masks reach
sieved sieve some = ⊎_elim (λ e. absurd (some e)) (λ s. s) sieve

pub chosen_listed : {image forms masks reach : List ℕ} {q : Query} {place : Place} {trail : Trail} {xs : List ℕ} → Sieve image q forms masks reach → trail.entries < 16
    → Chosen image q.entries forms masks reach place.last (2 ^ place.surface.letters) xs → Listed image q place trail xs
chosen_listed {image} {forms} {masks} {reach} {q} {place} {trail} {xs} sieve spare c =
    let s = sieved sieve c.some in
    record {
      may = λ k h. ((rising_in 0 (header image).entries xs c.rising k h).1, c.opens trail.entries k h);
      all = survivors_found image masks (flags_in forms) reach q s.covers s.reaches place trail (2 ^ place.surface.letters) (one_has place.surface.letters) spare xs c.rising
          (c.others trail.entries);
    }
