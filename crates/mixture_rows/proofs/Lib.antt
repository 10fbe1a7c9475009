pub mod Product
pub mod Parts
pub mod Graph
pub mod Bonds
pub mod Late
pub mod Orders
pub mod Tables
pub mod Claims
