pub mod Judgements
pub mod PairingLaws
mod Judging
