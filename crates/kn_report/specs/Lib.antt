pub mod AddingLaws
pub mod Digits
pub mod Frequent
pub mod Tally
pub mod Waiting
