pub mod Numbers
pub mod Cutting
pub mod Injective
pub mod Heads
pub mod Laws
pub mod Certified
pub mod Loops
pub mod Sequences
