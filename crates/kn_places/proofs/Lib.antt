pub mod Tallies
pub mod Places
pub mod Counts
pub mod Allowed
