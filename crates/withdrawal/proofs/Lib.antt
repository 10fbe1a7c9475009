pub mod First
pub mod Claims
pub mod Tables
pub mod Calls
pub mod Verdicts
pub mod Walking
pub mod Answers
