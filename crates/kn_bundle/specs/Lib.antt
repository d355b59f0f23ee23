pub mod Bundle
pub mod Following
pub mod Calls
pub mod Stages
