pub mod Same
pub mod Redrawing
