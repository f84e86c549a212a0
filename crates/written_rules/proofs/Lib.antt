mod Framing
mod Judging
mod Lined
pub mod Judgements
