pub mod Lines
pub mod Turn
pub mod Run
pub mod Totals
pub mod Laying
pub mod Sample
