pub mod Brief
pub mod Laws
pub mod Start
