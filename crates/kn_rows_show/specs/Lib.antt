pub mod Sums
pub mod Fixed
pub mod Scaled
