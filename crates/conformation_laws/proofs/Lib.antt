pub mod Kept
pub mod Claims
pub mod Back
pub mod Examples
