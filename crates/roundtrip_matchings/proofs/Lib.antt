pub mod Chosen
pub mod Renamed
pub mod Sums
pub mod Claims
pub mod Marks
