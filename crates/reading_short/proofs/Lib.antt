pub mod Cut
pub mod Short
