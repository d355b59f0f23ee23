pub mod Adding
pub mod Laws
pub mod Requests
pub mod Texts
