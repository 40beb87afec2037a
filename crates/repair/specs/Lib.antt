pub mod Cut
pub mod Dropped
