pub mod Laying
pub mod Outcomes
