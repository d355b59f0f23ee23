pub mod Slices
pub mod Group
pub mod Activators
pub mod Traces
pub mod Calls
pub mod Shares
