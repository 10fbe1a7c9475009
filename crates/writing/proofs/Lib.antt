pub mod Bonds
pub mod Limits
pub mod Claims
pub mod Marks
pub mod Examples
