pub mod Checking
pub mod Likeness
pub mod Passing
