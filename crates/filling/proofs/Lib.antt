pub mod Parts
pub mod FormsLaws
