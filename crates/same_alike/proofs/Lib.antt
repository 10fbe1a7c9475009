pub mod Marks
pub mod Likeness
pub mod Pairs
