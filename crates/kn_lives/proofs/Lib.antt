pub mod Pairs
pub mod Marks
pub mod Search
pub mod Steps
pub mod Rows
pub mod Tags
