pub mod Opened
pub mod Pods
pub mod Staying
