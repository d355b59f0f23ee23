pub mod Counters
pub mod Waits
