pub mod Sums
pub mod Costs
pub mod Tables
