pub mod Texts
pub mod Outputs
