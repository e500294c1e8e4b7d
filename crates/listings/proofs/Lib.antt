pub mod Chains
pub mod Parts
pub mod Runs
pub mod Fews
pub mod Tested
pub mod Laws
pub mod Gathering
pub mod Answered
