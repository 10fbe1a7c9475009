pub mod Spell
pub mod Write
pub mod Conditions
