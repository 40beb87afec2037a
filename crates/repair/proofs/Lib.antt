pub mod Onward
pub mod Repairing
pub mod ByPlace
pub mod Mending
pub mod Cutting
pub mod Dropping
