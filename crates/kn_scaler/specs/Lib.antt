pub mod Stands
pub mod Rows
pub mod Facts
