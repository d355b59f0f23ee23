pub mod Settings
pub mod Levers
pub mod Laws
pub mod Worked
