pub mod Bounded
pub mod State
pub mod Safe
pub mod Broken
pub mod Calls
pub mod Whole
