pub mod Folding
pub mod Links
