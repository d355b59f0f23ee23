pub mod Steps
pub mod Gauges
pub mod Sums
