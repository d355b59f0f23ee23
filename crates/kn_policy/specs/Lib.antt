pub mod Marks
pub mod Policy
