pub mod Places
pub mod Counts
pub mod Owned
pub mod Extended
