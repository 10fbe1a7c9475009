pub mod Numbers
pub mod Spans
pub mod Claims
