pub mod Reading
pub mod Sharing
pub mod Standing
pub mod Verdict
pub mod Breaking
pub mod Replaying
pub mod Calls
pub mod Safety
