pub mod Numbers
pub mod Durations
pub mod Quotients
pub mod Spelling
pub mod DurationSpelling
