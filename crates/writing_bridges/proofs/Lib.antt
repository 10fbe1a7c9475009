pub mod Slots
pub mod Sweep
pub mod Laws
pub mod BondArrays
pub mod Spare
pub mod Listed
