pub mod Indexed
pub mod Had
