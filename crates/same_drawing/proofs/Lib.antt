pub mod Matrix
pub mod Five
pub mod Drawn
pub mod Weights
pub mod Fitting
