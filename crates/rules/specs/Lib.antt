pub mod Live
pub mod Paths
