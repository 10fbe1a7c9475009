pub mod Modes
pub mod Astray
