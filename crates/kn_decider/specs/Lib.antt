pub mod Closing
pub mod Decider
pub mod Kept
