pub mod Begun
pub mod Fields
