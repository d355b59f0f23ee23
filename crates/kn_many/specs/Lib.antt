pub mod Ending
pub mod Many
pub mod ManyCourse
pub mod Setups
pub mod WideOpening
