pub mod Graph
pub mod Built
