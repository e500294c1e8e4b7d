pub mod Parts
pub mod Walks
pub mod Labels
pub mod Determined
