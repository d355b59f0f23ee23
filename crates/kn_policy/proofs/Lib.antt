pub mod Marking
pub mod Counting
pub mod Found
pub mod Words
pub mod Places
