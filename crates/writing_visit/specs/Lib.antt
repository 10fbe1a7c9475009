pub mod Straight
pub mod Visit
pub mod Wires
