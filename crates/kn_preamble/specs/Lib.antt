pub mod First
pub mod SetupLine
