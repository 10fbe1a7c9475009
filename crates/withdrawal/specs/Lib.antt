pub mod Withdrawal
pub mod Answer
pub mod Verdict
pub mod Walk
