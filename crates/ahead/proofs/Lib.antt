pub mod Standing
pub mod Candidates
pub mod Heads
pub mod FirstLetters
pub mod Trying
