pub mod Rising
pub mod Meaning
pub mod FloorLaws
pub mod Setting
pub mod Grid
pub mod Halls
pub mod LanesLeft
pub mod Directions
