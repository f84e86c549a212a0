-- A trail with an entry or a pair stored after those that it has.
use Prim.Native.Nat.{ℕ, ◌+◌, ◌<◌}
use native.Mathlib.Omega.{arith}
use mathlib.Core.Path.{refl}
use lib.ListN.{length, set}
use Rattle.rows.specs.declared.Trail.{Trail}
use Rattle.rows.specs.Trail.{reading_of, with_entry, with_pair, Short, Holds}
use Rattle.rows.proofs.Places.{take_more}

module _ (t : Trail) (short : Short t) where
  pub longer_entry : t.entries < 16 → t.entries < length t.path → (e : ℕ) → Holds (record { path = set t.path t.entries e; entries = t.entries + 1; pairing = t.pairing; pairs = t.pairs }) (with_entry (reading_of t) e) (t.entries + 1) t.pairs
  longer_entry few h e = record {
    reading = rw (take_more t.path t.entries e h) refl;
    entries_are = refl;
    pairs_are = refl;
    short = record { entries_most = omega arith; pairs_most = short.pairs_most };
  }

  pub longer_pair : t.pairs < 40 → t.pairs < length t.pairing → (p : ℕ) → Holds (record { path = t.path; entries = t.entries; pairing = set t.pairing t.pairs p; pairs = t.pairs + 1 }) (with_pair (reading_of t) p) t.entries (t.pairs + 1)
  longer_pair few h p = record {
    reading = rw (take_more t.pairing t.pairs p h) refl;
    entries_are = refl;
    pairs_are = refl;
    short = record { entries_most = short.entries_most; pairs_most = omega arith };
  }
