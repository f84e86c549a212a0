pub mod WordTests
pub mod Requests
pub mod Writable
