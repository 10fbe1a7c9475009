pub mod Standard
pub mod Standing
