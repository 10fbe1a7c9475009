pub mod Slots
pub mod Unused
