-- auxiliary: whether there is a matching is told, and a row got the first one
use Rattle.std.specs.Prelude.{ℕ, ◌≡◌, Bool, List, ℤ}
use Rattle.matching.specs.Enumeration.{row_call}
use Rattle.matching.specs.declared.Call.TheVariants.{First}
use Rattle.table_graph.specs.Graph.{matching_of, matchable}

-- the row after the first call; zeros where there is no matching
abbrev pub first_in : List ℤ → List ℤ → ℕ → ℕ → List ℕ → List ℕ
first_in atoms bonds n m row = (row_call (matching_of atoms bonds n m) m First row).row

pub record FirstIn (atoms bonds : List ℤ) (n m : ℕ) (row : List ℕ) (r : Bool) (row' : List ℕ) : Type 0 where
  pub told : r ≡ matchable atoms bonds n m
  pub first : row' ≡ first_in atoms bonds n m row
