pub mod Emission
pub mod Tokens
pub mod Nesting
pub mod Depth
pub mod Assembly
pub mod Answer
