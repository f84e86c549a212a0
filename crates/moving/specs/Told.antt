-- What std's read and write told, and what follows from it.
use Rattle.std.specs.Prelude.{ℕ, zero, suc, ◌+◌, ◌<◌, ◌≤◌, min, ◌≡◌, ◌≢◌, List, length, take, Option, Some, None, Result, Ok, Err}
use Rattle.std.specs.IoError.{error_kind}
use Rattle.std.specs.declared.io.Error.{Error}
use Rattle.std.specs.declared.io.ErrorKind.TheVariants as kind
use Rattle.moving.specs.declared.Count.{Count}
use Rattle.moving.specs.declared.Taken.{Taken}
use Rattle.moving.specs.declared.Taken.TheVariants as taken

-- what a call told: bytes moved, none since a signal came first, or that it failed
abbrev pub Told : Type 0
Told = Result (Option ℕ) Error

-- an answer that is Ok counts bytes, of the `most` that were lent; an error tells of no byte, and whether a signal interrupted the call
abbrev pub ToldBy : Result ℕ Error → ℕ → Told → Type 0
ToldBy (Ok k) most (Ok (Some n)) = n ≡ min k most
ToldBy (Ok k) most (Ok None) = ⊥
ToldBy (Ok k) most (Err e) = ⊥
ToldBy (Err f) most (Ok (Some n)) = ⊥
ToldBy (Err f) most (Ok None) = error_kind f ≡ kind.Interrupted
ToldBy (Err f) most (Err e) = (error_kind f ≢ kind.Interrupted) × (e ≡ f)

abbrev pub bytes_told : Told → ℕ
bytes_told (Ok (Some n)) = n
bytes_told (Ok None) = 0
bytes_told (Err e) = 0

-- a call that moves no byte ends the reading or the writing; one that a signal interrupted does not
abbrev pub onward_of : ℕ → Told → Result (Option ℕ) Error
onward_of done (Ok (Some zero)) = Ok None
onward_of done (Ok (Some (suc n))) = Ok (Some (done + suc n))
onward_of done (Ok None) = Ok (Some done)
onward_of done (Err e) = Err e

-- "one that can't be read has length 0": of what was read before a call failed, no byte counts
abbrev pub length_after : ℕ → Result (Option ℕ) Error → ℕ
length_after done (Ok (Some n)) = 0
length_after done (Ok None) = done
length_after done (Err e) = 0

abbrev pub length_read : Result ℕ Error → ℕ
length_read (Ok n) = n
length_read (Err e) = 0

-- no byte is the end of the input; a read that a signal interrupted is not, nor one that failed
abbrev pub TakenBy : Told → Count → Result Taken Error → Type 0
TakenBy (Ok (Some n)) before (Ok (taken.Bytes m all)) = (m ≡ n) × ((0 < n) × (all.bytes ≡ before.bytes + n))
TakenBy (Ok (Some n)) before (Ok taken.End) = n ≡ 0
TakenBy (Ok (Some n)) before (Ok taken.Nothing) = ⊥
TakenBy (Ok (Some n)) before (Err f) = ⊥
TakenBy (Ok None) before (Ok (taken.Bytes m all)) = ⊥
TakenBy (Ok None) before (Ok taken.End) = ⊥
TakenBy (Ok None) before (Ok taken.Nothing) = Unit
TakenBy (Ok None) before (Err f) = ⊥
TakenBy (Err e) before (Ok t) = ⊥
TakenBy (Err e) before (Err f) = f ≡ e

-- the count of all bytes that came in grows by those that came in now
abbrev pub TakenIn : ℕ → Count → Option Taken → Type 0
TakenIn most before (Some (taken.Bytes n all)) = (0 < n) × ((n ≤ most) × (all.bytes ≡ before.bytes + n))
TakenIn most before (Some taken.End) = Unit
TakenIn most before (Some taken.Nothing) = Unit
TakenIn most before None = Unit

-- the count of all bytes that have gone out grows by the whole text
abbrev pub GivenOut : ℕ → Count → Option Count → Type 0
GivenOut most before (Some all) = all.bytes ≡ before.bytes + most
GivenOut most before None = Unit

-- so many bytes stand at the front of the buffer
abbrev pub IsPrefixLen : ℕ → List ℕ → Type 0
IsPrefixLen n xs = (n ≤ length xs) × (n ≡ length (take n xs))
