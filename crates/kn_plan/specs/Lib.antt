pub mod Command
pub mod Plan
pub mod StayOptions
pub mod Stay
pub mod StayTexts
