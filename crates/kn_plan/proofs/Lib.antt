pub mod Reading
pub mod Parted
pub mod Listed
pub mod Lists
pub mod StayReading
pub mod StayUses
pub mod StayFaults
pub mod StayNone
