pub mod Tables
pub mod Stepping
pub mod PathLaws
