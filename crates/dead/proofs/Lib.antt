-- Laws that the proofs of functions cite; `Dead` is for the callers too.
pub mod Dead
pub mod Keys
pub mod Agreeing
pub mod Slots
