pub mod Valence
