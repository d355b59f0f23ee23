pub mod Asking
pub mod Metric
pub mod Exposition
pub mod Answers
pub mod Visits
