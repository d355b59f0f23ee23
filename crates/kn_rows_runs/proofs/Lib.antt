pub mod Lists
pub mod Serving
pub mod Overloads
pub mod Holding
pub mod Assigning
pub mod Counting
