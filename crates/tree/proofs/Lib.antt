pub mod Items
pub mod Options
pub mod Entries
pub mod Altering
pub mod Marks
pub mod Clearing
pub mod Walking
pub mod Trails
