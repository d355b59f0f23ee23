pub mod Places
pub mod Lists
pub mod Rows
pub mod Steps
