pub mod Rest
pub mod Bytes
pub mod Fields
pub mod Element
pub mod Chain
pub mod Letters
pub mod Common
