pub mod Beside
pub mod ByAct
pub mod Phases
pub mod History
pub mod Refusals
pub mod Losses
pub mod Kinds
pub mod Facts
