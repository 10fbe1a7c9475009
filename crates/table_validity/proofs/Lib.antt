mod Ranges
mod Degrees
