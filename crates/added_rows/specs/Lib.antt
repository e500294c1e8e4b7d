pub mod OwnRows
pub mod Adding
pub mod Meaning
pub mod Layered
