pub mod Here
pub mod FirstLetters
pub mod Forced
