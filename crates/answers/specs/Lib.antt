pub mod Answered
pub mod Input
pub mod Run
