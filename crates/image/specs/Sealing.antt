-- The answer of sealing in document 01's words and number.
use Rattle.std.specs.Prelude.{Result, Ok, Err}
use Rattle.model.specs.Calls as model
use Rattle.refusal.specs.declared.Refusal.{Refusal}
use Rattle.refusal.specs.Numbers.{number_of}

abbrev pub sealing_of : Result (Unit {0}) Refusal → model.Sealing
sealing_of (Ok _) = model.Sealing.sealed
sealing_of (Err r) = model.Sealing.refused (number_of r)
