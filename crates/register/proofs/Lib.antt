pub mod Rules
pub mod Stores
pub mod PowerCut
pub mod Paths
pub mod Plain
pub mod Runs
pub mod Room
