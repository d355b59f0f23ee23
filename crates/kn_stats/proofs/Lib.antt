pub mod Table
pub mod Search
pub mod Bounds
pub mod Sums
pub mod Allowed
pub mod Counted
pub mod Steps
pub mod Closings
