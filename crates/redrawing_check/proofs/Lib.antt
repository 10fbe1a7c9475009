pub mod Shown
pub mod Checking
