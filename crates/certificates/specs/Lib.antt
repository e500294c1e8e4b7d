pub mod Faults
pub mod Values
pub mod Bounds
pub mod Steps
pub mod Checks
pub mod Duality
pub mod Held
