pub mod Letters
pub mod Slots
pub mod Forms
pub mod Filling
