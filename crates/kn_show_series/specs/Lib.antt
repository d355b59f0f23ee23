pub mod Fields
pub mod Steps
pub mod Series
pub mod Counting
pub mod Open
pub mod State
pub mod Passing
pub mod Laws
