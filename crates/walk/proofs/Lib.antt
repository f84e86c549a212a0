pub mod Choosing
pub mod Giving
pub mod Sieved
pub mod Turns
