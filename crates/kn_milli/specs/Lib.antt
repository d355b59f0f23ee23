pub mod Milli
