pub mod Decisions
pub mod Jobs
pub mod Fitting
pub mod JobLaws
