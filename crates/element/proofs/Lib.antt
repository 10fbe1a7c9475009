pub mod Table
pub mod Symbols
pub mod Answers
pub mod Laws
pub mod Claims
