pub mod Numbers
pub mod Pods
pub mod Kept
pub mod Answer
