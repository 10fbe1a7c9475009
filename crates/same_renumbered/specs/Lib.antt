pub mod Renumbered
