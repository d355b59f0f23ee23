pub mod Changes
pub mod Seconds
pub mod Loads
