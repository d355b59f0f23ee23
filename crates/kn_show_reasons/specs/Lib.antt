pub mod Sentences
pub mod Notices
pub mod Reasons
pub mod State
pub mod Reading
pub mod Holding
pub mod Adding
pub mod Runs
