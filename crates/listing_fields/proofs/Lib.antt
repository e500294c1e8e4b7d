pub mod Sixes
pub mod Ranges
pub mod Single
pub mod Judged
pub mod Parsed
pub mod Steps
pub mod Mapped
pub mod Rises
