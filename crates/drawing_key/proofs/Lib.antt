pub mod Joined
pub mod Kept
pub mod Claims
pub mod Making
pub mod Filling
pub mod Pinned
