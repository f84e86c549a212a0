pub mod Rounds
pub mod Depths
