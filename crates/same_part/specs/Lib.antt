pub mod Value
pub mod Part
