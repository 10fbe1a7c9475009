pub mod Low
pub mod Nearby
pub mod Keeping
