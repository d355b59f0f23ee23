pub mod Late
pub mod Patience
pub mod Queued
pub mod Turns
