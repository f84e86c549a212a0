-- A reading that a row has room for, and that every reading of a grammar of few entries and pairs is one.
use Prim.Native.Nat.{ℕ, ◌<◌, ◌≤◌}
use native.Mathlib.Omega.{arith}
use mathlib.Core.Bool.{Bool}
use mathlib.Core.List.Memᴰ
use mathlib.Core.List.{List, ◌∷◌}
use lib.ListN.{length}
use lib.Dec.{T, ltb, ltb→lt}
use Rattle.model.specs.Lexicon.{linked, path_length}
use Rattle.model.specs.Grammar.{Grammar}
use Rattle.model.specs.Readings.{Reading, is_reading, is_path, is_linked}
use Rattle.model.proofs.Booleans.{and_out, out3, within_out}
use Rattle.model.proofs.Lists.{every_at}
use Rattle.model.proofs.Readings.{parts_of}
use Rattle.print.proofs.Text.{TwoBytes}

pub record Small (r : Reading) : Type 0 where
  pub entries_most : length r.path ≤ 16
  pub pairs_most : length r.pairing ≤ 40
  pub entries_small : TwoBytes r.path
  pub pairs_small : TwoBytes r.pairing

module _ (g : Grammar) (entries_few : g.entries < 65536) (pairs_few : g.pairs < 65536) where
  linked_small : (may : ℕ → Bool) (stop : Bool) (es : List ℕ) → T (linked g.entries g.follows g.ends may stop es) → TwoBytes es
  unfolding linked
  linked_small may stop mathlib.Core.List.[] t n x' = elim x' [ ]
  linked_small may stop (e ∷ es) t n (Memᴰ.head p) = let u = out3 (may e) (ltb e g.entries) (linked g.entries g.follows g.ends (g.follows e) (g.ends e) es) t in omega (arith, p, ltb→lt e g.entries u.1)
  linked_small may stop (e ∷ es) t n (Memᴰ.tail m) = linked_small (g.follows e) (g.ends e) es (out3 (may e) (ltb e g.entries) (linked g.entries g.follows g.ends (g.follows e) (g.ends e) es) t).2 n m

  pub reading_small : (r : Reading) → T (is_reading g r) → Small r
  unfolding is_path
  reading_small r t =
      let es = r.path in
      let ps = r.pairing in
      let u = parts_of g r t in
      let path = and_out (path_length es) (is_linked g es) u.path_right in
      record {
        entries_most = (within_out 1 16 (length es) path.0).1;
        pairs_most = (within_out 1 40 (length ps) u.pairs_few).1;
        entries_small = linked_small g.begins _ es path.1;
        pairs_small = λ p m. omega (arith, ltb→lt p g.pairs (every_at (λ p. ltb p g.pairs) ps m u.pairs_listed));
      }
