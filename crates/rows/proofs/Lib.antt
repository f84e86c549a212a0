-- Laws that the proofs of functions cite; `Longer`, `Offering`, `Fill` and `Windows` are for the callers too.
pub mod Places
pub mod Bytes
pub mod Written
pub mod Longer
pub mod Offering
pub mod Fill
pub mod Windows
