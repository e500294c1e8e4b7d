pub mod Totals
pub mod Passes
pub mod Columnwise
pub mod Whole
pub mod Laws
pub mod Same
