pub mod Over
pub mod Records
pub mod Replies
pub mod Shares
