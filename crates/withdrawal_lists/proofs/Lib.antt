pub mod Listing
pub mod Answering
pub mod Calls
pub mod Entries
pub mod Claims
