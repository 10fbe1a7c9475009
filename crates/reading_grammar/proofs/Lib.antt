pub mod Examples
pub mod Ends
pub mod Complete
pub mod Sound
pub mod Viable
pub mod Fold
