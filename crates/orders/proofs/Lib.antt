pub mod AcceptedLaws
pub mod KeyLaws
pub mod OrderLaws
