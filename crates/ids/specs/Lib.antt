pub mod Limits
pub mod Small
