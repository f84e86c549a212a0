mod Found
pub mod Dividing
mod Scan
mod Signs
pub mod Lines
mod Split
mod Digits
mod Contexts
pub mod LineGrammar
mod LineEnds
pub mod TextGrammar
pub mod Obeyed
pub mod Known
pub mod Each
pub mod Trials
