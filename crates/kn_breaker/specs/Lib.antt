pub mod Breaker
