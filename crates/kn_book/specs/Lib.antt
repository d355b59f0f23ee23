pub mod Book
pub mod State
pub mod Laws
