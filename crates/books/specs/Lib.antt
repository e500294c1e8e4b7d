pub mod Places
pub mod Faults
pub mod Lists
pub mod Walks
pub mod Conditions
pub mod ClauseTable
pub mod Schedules
