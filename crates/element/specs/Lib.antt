pub mod Symbols
pub mod Lookup
