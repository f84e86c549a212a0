-- What this crate's contracts cite: what a search carries of a reading, how readings are offered, and how their rows fill a buffer.
pub mod Trail
pub mod Offering
pub mod Fill
