pub mod Outcomes
pub mod Names
