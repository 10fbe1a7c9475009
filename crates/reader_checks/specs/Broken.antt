-- auxiliary: the tests of 02, P11's list of what is refused as 25, on the numbers of a state
use Rattle.std.specs.Prelude.{ℕ, Bool, ◌&&◌, ◌||◌, not, List, get_or, pos, negsuc, eqb, leb, ltb}
use Rattle.loops.specs.Loop.{pick, each}
use Rattle.ids.specs.Limits.{max_depth, bridges}
use Rattle.table.specs.Cells.{in_range}
use Rattle.table.specs.Valid.{max_mark}
use Rattle.reading_state.specs.declared.Fields.{Fields}

-- the hub, a branch, a bridge is not below the atom count, or too many branches are open
abbrev pub hub_is_astray : ℕ → ℕ → Bool
hub_is_astray n hub = pick (eqb n 0) (not (eqb hub 0)) (leb n hub)

abbrev pub branch_is_astray : ℕ → ℕ → List ℕ → Bool
branch_is_astray n depth hubs = not (each (λ i. ltb (get_or hubs i 0) n) 0 depth)

abbrev pub bridge_is_astray : ℕ → List ℕ → Bool
bridge_is_astray n openers = not (each (λ r. leb (get_or openers r 0) n) 0 bridges)

abbrev pub is_astray : ℕ → ℕ → ℕ → List ℕ → List ℕ → Bool
is_astray n hub depth hubs openers = hub_is_astray n hub || branch_is_astray n depth hubs || bridge_is_astray n openers || ltb max_depth depth

-- a field of the bracket is above its largest value
unfoldable pub is_above : Fields → Bool
is_above f =
    ltb 999 f.isotope || ltb 118 f.element || ltb 1 f.selected || ltb max_mark f.mark || ltb 9 f.hydrogens
    || not (in_range f.charge (negsuc 8) (pos 9)) || ltb 9999 f.extension

-- .. in a bracket; or a bridge's first digit
abbrev pub is_half_read_above : ℕ → ℕ → Fields → Bool
is_half_read_above mode tens f = (leb 10 mode && is_above f) || (eqb mode 7 && ltb 9 tens)
