pub mod Mixed
pub mod Claims
