pub mod Stores
pub mod EntryLaws
pub mod BlockLaws
