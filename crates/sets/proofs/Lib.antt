pub mod Lists
pub mod Written
pub mod Pairs
pub mod Bits
pub mod LetterSets
