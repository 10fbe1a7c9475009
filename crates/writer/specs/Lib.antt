pub mod Emit
pub mod Nest
pub mod Told
