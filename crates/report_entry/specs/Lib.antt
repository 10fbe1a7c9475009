pub mod Entry
pub mod Laid
