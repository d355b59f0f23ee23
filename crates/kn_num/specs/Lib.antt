pub mod Number
pub mod Capped
pub mod Duration
pub mod Spelling
