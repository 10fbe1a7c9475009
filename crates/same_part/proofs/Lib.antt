pub mod Drawn
pub mod Step
pub mod Opening
pub mod Laws
