pub mod Rest
pub mod Field
pub mod Spelled
