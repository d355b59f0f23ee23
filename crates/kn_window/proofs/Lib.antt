pub mod Spells
pub mod Rings
pub mod Windows
pub mod Same
pub mod Pushes
