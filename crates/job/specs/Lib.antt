pub mod Decisions
pub mod Jobs
