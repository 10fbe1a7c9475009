pub mod Kekule
pub mod Calls
pub mod First
