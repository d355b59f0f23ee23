pub mod Fractions
pub mod Samples
pub mod Rulings
