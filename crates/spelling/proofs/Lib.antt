pub mod Letters
pub mod Words
pub mod Replies
