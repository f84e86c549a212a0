pub mod Placing
pub mod Laid
