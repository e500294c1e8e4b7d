pub mod Stored
pub mod Books
