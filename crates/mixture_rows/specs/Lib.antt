pub mod Rows
pub mod Beside
