pub mod Walking
pub mod Determined
pub mod Limited
pub mod Tags
