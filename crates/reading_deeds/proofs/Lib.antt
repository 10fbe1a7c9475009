pub mod Laws
pub mod Modes
