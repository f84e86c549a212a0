mod Booleans
pub mod Completeness
pub mod Soundness
pub mod Reading
mod Parts
pub mod Places
pub mod Obeying
mod Trials
pub mod Fuel
pub mod Stars
pub mod Relation
