-- The words of this crate's contracts.
pub mod Bytes
pub mod Numbers
pub mod LineTexts
pub mod Parsing
pub mod Lines
pub mod Texts
