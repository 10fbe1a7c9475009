pub mod Lasts
pub mod Taking
pub mod Tried
