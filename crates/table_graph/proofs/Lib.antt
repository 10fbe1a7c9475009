pub mod Sums
pub mod Graph
pub mod Localized
pub mod Marks
