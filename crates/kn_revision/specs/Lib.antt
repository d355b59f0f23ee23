pub mod Members
pub mod Annotations
pub mod Amounts
pub mod Revision
pub mod Laws
