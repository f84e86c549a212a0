pub mod Context
pub mod Reader
pub mod Fuel
pub mod Meaning
pub mod Operators
pub mod Relation
