pub mod Names
pub mod Lines
pub mod Numbers
pub mod Chunks
pub mod Parts
pub mod Next
pub mod Laws
