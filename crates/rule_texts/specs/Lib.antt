pub mod Line
pub mod Text
pub mod Scan
pub mod Parts
