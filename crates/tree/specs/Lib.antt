pub mod Tree
pub mod Ways
