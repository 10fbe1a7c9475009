pub mod Readings
pub mod Edits
