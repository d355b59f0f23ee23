pub mod Manner
pub mod Run
