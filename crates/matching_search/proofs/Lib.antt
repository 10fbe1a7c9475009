pub mod Flags
pub mod Choice
pub mod Check
pub mod Fitting
pub mod After
pub mod Reply
