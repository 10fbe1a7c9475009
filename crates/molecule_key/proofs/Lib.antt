pub mod Rows
pub mod Used
pub mod Claims
pub mod Tables
pub mod Samples
