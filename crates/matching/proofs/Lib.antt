pub mod Bytes
pub mod Numbers
mod Steps
mod Reading
