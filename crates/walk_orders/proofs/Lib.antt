pub mod Numbers
pub mod Carried
pub mod Marks
pub mod Again
pub mod Examples
