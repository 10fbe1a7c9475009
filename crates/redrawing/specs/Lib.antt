pub mod Redrawn
