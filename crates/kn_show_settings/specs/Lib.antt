pub mod Blocks
pub mod Settings
pub mod Showing
pub mod Laws
