pub mod Deed
