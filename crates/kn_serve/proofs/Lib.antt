pub mod SessionFacts
pub mod SetupFacts
pub mod Slots
pub mod RunFacts
pub mod ShutFacts
pub mod FineFacts
