pub mod Choice
pub mod Breadths
pub mod Unique
pub mod Passes
pub mod SeenColumns
