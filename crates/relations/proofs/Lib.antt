pub mod Bits
pub mod Filling
pub mod Counting
