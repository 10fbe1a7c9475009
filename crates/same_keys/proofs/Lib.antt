pub mod Low
pub mod Mixing
pub mod Spreading
pub mod Filling
pub mod Kept
pub mod Pairs
