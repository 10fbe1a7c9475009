pub mod Key
pub mod Filled
