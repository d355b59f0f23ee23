pub mod Digits
pub mod Fronts
pub mod Ones
pub mod Following
