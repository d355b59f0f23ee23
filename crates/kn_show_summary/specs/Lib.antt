pub mod Counted
pub mod Rows
pub mod Text
pub mod Summary
