pub mod Passed
pub mod Straight
pub mod Ways
pub mod Lists
pub mod Wires
pub mod Seen
pub mod Laws
pub mod Roots
