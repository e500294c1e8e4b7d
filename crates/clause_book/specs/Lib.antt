pub mod CaseLists
pub mod Books
pub mod Numbered
pub mod Opening
