pub mod Laws
pub mod Parts
mod Lexicons
pub mod Candidates
