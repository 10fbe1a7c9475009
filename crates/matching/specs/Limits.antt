-- 01, The tables: the limits
pub use Rattle.ids.specs.Limits.{max_atoms, max_bonds}
