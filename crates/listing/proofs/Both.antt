-- "This path and this word": asked for both exactly, the list has just the readings with that path that spell that word, in step order.
use Prim.Native.Nat.{ℕ}
use mathlib.Core.Path.{◌≡◌}
use mathlib.Core.Logic.{◌↔◌}
use mathlib.Core.List.{List, map, Memᴰ}
use lib.Dec.{T}
use Rattle.model.specs.Grammar.{Grammar, OneWay}
use Rattle.model.specs.Readings.{Reading, is_reading, word, speech, steps, Ascending}
use Rattle.model.specs.Query.{Query, answers, entry_numbers}
use Rattle.model.specs.Tree.{readings}
use Rattle.model.proofs.Readings.{answers_out, answers_in}
use Rattle.model.proofs.Converse.{exactly_iff, anything_fits}
use Rattle.model.proofs.Listing.{listing_iff}
use Rattle.model.proofs.Endings.{plain_listing}
use Rattle.listing.specs.declared.asked.PathAsked.{PathAsked}
use Rattle.listing.specs.declared.asked.WordAsked.{WordAsked}
use Rattle.listing.specs.Asked.{path_pattern, word_pattern, query_by}

module _ (g : Grammar) (path w : List ℕ) where
  abbrev both : Query
  both = query_by (record { path = PathAsked.Exactly; word = WordAsked.Exactly }) path w

  answers_both : (r : Reading) → T (answers g both r) ↔ ((r.path ≡ entry_numbers path) × (word g r ≡ w))
  unfolding path_pattern word_pattern
  answers_both r =
      let es = entry_numbers path in (
        λ t. let a = answers_out g r both t in ((exactly_iff es r.path).0 a.0, (exactly_iff w (word g r)).0 a.1),
        λ e. answers_in g r both ((exactly_iff es r.path).1 e.0) ((exactly_iff w (word g r)).1 e.1) (anything_fits 0 (speech g r)),
      )

  pub both_iff : OneWay g → (l : List Reading) → (((r : Reading) → Memᴰ r l ↔ (T (is_reading g r) × ((r.path ≡ entry_numbers path) × (word g r ≡ w)))) × Ascending (map (steps g) l)) ↔ (l ≡ readings g both)
  both_iff one l = (
    λ h.
        (listing_iff (readings g both) (plain_listing g one both) l).0
        (record {
          only = λ r m. let b = (h.0 r).0 m in (b.0, (answers_both r).1 b.1);
          every_one = λ r t a. (h.0 r).1 (t, (answers_both r).0 a);
          in_order = h.1;
        }),
    λ e.
        let i = (listing_iff (readings g both) (plain_listing g one both) l).1 e in
        (λ r. (λ m. let o = i.only r m in (o.0, (answers_both r).0 o.1), λ b. i.every_one r b.0 ((answers_both r).1 b.1)), i.in_order),
  )
