pub mod Lives
pub mod Slots
