pub mod ManyEnds
pub mod ManyFacts
pub mod ManyRun
pub mod SetupsFacts
pub mod WideFacts
