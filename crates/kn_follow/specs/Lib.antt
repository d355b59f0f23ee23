pub mod Endings
pub mod Account
pub mod Following
pub mod Calls
pub mod Cutting
pub mod Laws
