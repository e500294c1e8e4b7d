pub mod Items
pub mod Walks
pub mod Products
pub mod Single
pub mod Fails
pub mod Steps
