pub mod Numbers
pub mod Workers
pub mod Fresh
