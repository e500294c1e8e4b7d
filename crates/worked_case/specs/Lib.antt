pub mod Case
pub mod Lists
pub mod Worked
pub mod Certificates
pub mod Written
pub mod Outcomes
