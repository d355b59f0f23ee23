pub mod Average
pub mod Demand
pub mod Panic
pub mod Delay
pub mod Burst
pub mod Zero
pub mod Decide
pub mod Worked
