pub mod Report
pub mod Totals
pub mod Reply
pub mod Blocks
pub mod Run
