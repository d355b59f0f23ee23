pub mod Paths
pub mod Heads
pub mod Thousandths
pub mod Pieces
pub mod Talks
pub mod Looking
