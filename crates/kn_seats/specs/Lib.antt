pub mod Chains
pub mod Pods
pub mod Cells
pub mod Seats
pub mod Kept
