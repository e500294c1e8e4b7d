pub mod Magnitudes
pub mod Scans
pub mod Verdicts
