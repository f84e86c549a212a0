pub mod Basis
pub mod Listed
pub mod Offered
