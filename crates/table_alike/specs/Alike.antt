-- auxiliary: tables that have the same cells, a cell past the end being 0
use Rattle.std.specs.Prelude.{ℕ, ◌≡◌, List, get_or, ℤ, pos}

pub record Alike (t u : List ℤ) : Type 0 where
  pub cell : (k : ℕ) → get_or t k (pos 0) ≡ get_or u k (pos 0)
