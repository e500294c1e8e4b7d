pub mod Numbers
pub mod Weak
pub mod Roads
pub mod Passed
