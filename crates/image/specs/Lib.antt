pub mod Header
pub mod Laid
pub mod Kinds
pub mod Accepted
pub mod Index
pub mod Sealing
