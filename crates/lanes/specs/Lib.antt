pub mod Records
pub mod Plans
