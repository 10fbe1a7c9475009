pub mod Limits
pub mod Enumeration
pub mod Graph
pub mod Model
pub mod Cut
