pub mod Grammar
pub mod Machine
pub mod Place
pub mod Completion
pub mod Fold
