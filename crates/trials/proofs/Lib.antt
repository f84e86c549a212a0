pub mod Trials
pub mod Limits
pub mod Examples
