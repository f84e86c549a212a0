pub mod Laid
pub mod Sides
pub mod WithoutSets
