pub mod Positions
pub mod Masks
pub mod Stack
