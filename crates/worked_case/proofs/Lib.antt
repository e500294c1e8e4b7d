pub mod Buffers
pub mod Entries
pub mod Listed
pub mod Judged
pub mod Figures
pub mod Empty
