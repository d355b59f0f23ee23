pub mod Ending
pub mod Exits
