pub mod Long
pub mod Policies
pub mod Counts
pub mod Books
