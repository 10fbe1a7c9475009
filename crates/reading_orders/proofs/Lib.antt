pub mod Swaps
pub mod Rising
pub mod Told
pub mod Orders
pub mod Digits
pub mod Steps
pub mod Claims
mod Examples
