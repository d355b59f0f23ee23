pub mod Told
pub mod Stays
pub mod Starting
pub mod Course
