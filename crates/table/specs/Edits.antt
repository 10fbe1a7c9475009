-- 01, Settling (kekulizing): the whole tables after the bonds of a matching row became kind 2 and the selected cells 0
use Rattle.std.specs.Prelude.{ℕ, List, get_or, set, ℤ, pos, eqb}
use Rattle.loops.specs.Loop.{pick, run}
use Rattle.kinds.specs.Kind.{double}
use Rattle.table.specs.Limits.{SELECTED, KIND}
use Rattle.table.specs.Cells.{atom_place, bond_place}

-- the bond b becomes kind 2 if its number x in the row is 1
unfoldable pub doubled : ℕ → ℕ → List ℤ → List ℤ
doubled x b t = pick (eqb x 1) (set t (bond_place b KIND) (pos double)) t

abbrev pub doubled_by : List ℕ → ℕ → List ℤ → List ℤ
doubled_by row b t = doubled (get_or row b 0) b t

unfoldable pub doubled_bonds : List ℕ → ℕ → List ℤ → List ℤ
doubled_bonds row m t = run (doubled_by row) 0 m t

-- the selected cell of the atom a is cleared
abbrev pub unselected : ℕ → List ℤ → List ℤ
unselected a t = set t (atom_place a SELECTED) (pos 0)

unfoldable pub unselected_atoms : ℕ → List ℤ → List ℤ
unselected_atoms n t = run unselected 0 n t
