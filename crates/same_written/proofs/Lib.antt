pub mod Claims
pub mod Drawings
pub mod Pairs
