mod Along
pub mod Count
pub mod Reason
