pub mod Lease
pub mod History
