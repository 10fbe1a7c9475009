-- auxiliary: the bonds that a row chooses have no crowded end
use Rattle.std.specs.Prelude.{ℕ, List, Bool, ◌&&◌, not, get_or, ℤ, eqb}
use Rattle.loops.specs.Loop.{each}
use Rattle.table.specs.Marks.{crowded_ends}

abbrev pub crowded_choice : List ℤ → ℕ → List ℕ → ℕ → Bool
crowded_choice bonds m row b = eqb (get_or row b 0) 1 && crowded_ends bonds m b

unfoldable pub none_crowded_by : List ℤ → ℕ → List ℕ → Bool
none_crowded_by bonds m row = each (λ b. not (crowded_choice bonds m row b)) 0 m
