pub mod Search
pub mod Sound
pub mod Runs
pub mod Expanded
