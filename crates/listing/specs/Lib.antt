pub mod Gather
pub mod Asked
pub mod Levels
pub mod Places
pub mod Opening
pub mod Search
