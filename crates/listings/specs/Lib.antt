pub mod Listed
pub mod Books
pub mod Writing
pub mod Reading
pub mod Puts
