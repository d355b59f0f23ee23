pub mod Pieces
pub mod Places
pub mod Shown
pub mod Lined
pub mod Blocked
pub mod Setups
pub mod Targets
pub mod ByBlocks
