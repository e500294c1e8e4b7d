pub mod Entries
pub mod Nths
pub mod Walking
pub mod Sounds
pub mod Integers
