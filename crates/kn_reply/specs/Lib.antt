pub mod Closing
pub mod Ends
pub mod Plain
pub mod Replies
