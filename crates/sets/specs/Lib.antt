pub mod Sides
pub mod Seen
