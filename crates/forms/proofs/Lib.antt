pub mod PairLaws
pub mod Stores
pub mod SlotLaws
pub mod SkipLaws
pub mod SlottedLaws
