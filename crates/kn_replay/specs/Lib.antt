pub mod Report
pub mod Texts
pub mod Commands
pub mod Generating
pub mod Replaying
pub mod Simulating
pub mod Grouped
pub mod Bundled
