pub mod Leading
pub mod Established
pub mod Answering
pub mod Running
pub mod Lawful
pub mod Laying
pub mod Same
