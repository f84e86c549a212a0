pub mod Breadths
pub mod Passes
