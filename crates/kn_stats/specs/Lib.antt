pub mod Changes
pub mod Closing
pub mod Pods
pub mod Places
pub mod Totals
pub mod Stands
