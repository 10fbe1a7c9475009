pub mod Walk
pub mod Rows
pub mod Skipping
pub mod Barring
