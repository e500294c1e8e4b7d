pub mod Bytes
pub mod Fields
pub mod Faults
pub mod Files
pub mod Lawful
pub mod Certificates
pub mod Sequences
pub mod Walks
