pub mod Judged
pub mod Places
