pub mod Marks
pub mod Sessions
pub mod Texts
