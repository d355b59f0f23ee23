pub mod Requests
pub mod Firsts
pub mod Marks
pub mod Search
pub mod Writes
pub mod Answered
pub mod Chains
