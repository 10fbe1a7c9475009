pub mod Memory
pub mod Bracket
pub mod Act
pub mod Read
pub mod Conditions
pub mod Claims
