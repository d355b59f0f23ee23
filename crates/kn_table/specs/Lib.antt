pub mod Order
pub mod Moves
pub mod Slots
pub mod Links
