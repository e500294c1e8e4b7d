pub mod Spread
pub mod Placed
pub mod Tables
pub mod Kinds
pub mod Columns
