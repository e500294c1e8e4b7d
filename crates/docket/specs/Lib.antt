pub mod Verdicts
pub mod Calls
pub mod Standings
pub mod Labels
pub mod Runs
pub mod Docketed
pub mod Texts
