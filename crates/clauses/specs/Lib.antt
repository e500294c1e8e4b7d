pub mod Sums
pub mod Terms
pub mod Rows
pub mod Stored
pub mod Settings
pub mod Clauses
pub mod Singly
