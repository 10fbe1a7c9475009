pub mod Enumeration
pub mod Graph
pub mod Cut
pub mod Examples
pub mod Sets
pub mod Listing
pub mod Calls
pub mod Claims
