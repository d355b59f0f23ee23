pub mod Kinds
pub mod Tallies
pub mod Figures
pub mod Laws
