-- auxiliary: a molecule settled by a row as a matrix of orders, and which atoms of two molecules may go to one another as a matrix of 0 and 1
use Rattle.std.specs.Prelude.{ℕ, ◌*◌, ◌+◌, ◌<◌, ◌≤◌, ◌/◌, ◌%◌, ◌≡◌, Bool, ◌&&◌, List, [], length, get_or, ℤ, eqb}
use Rattle.loops.specs.Loop.{pick, run}
use Rattle.table.specs.Limits.{max_bonds}
use Rattle.table.specs.Cells.{end1, end2, kind}
use Rattle.kinds.specs.Kind.{order}
use Rattle.table_graph.specs.Graph.{flag}
use Rattle.table_graph.specs.Built.{bump}
use Rattle.same_model.specs.Same.{max_same, Molecule, same_cells, order_between}
use Rattle.same_place.specs.Place.{entry}
use Rattle.same_keys.specs.Keys.{mixed}

-- the cells of a matrix
abbrev pub cells : ℕ
cells = max_same * max_same

-- the order of a bond of the kind k after settling by a row that has c there
abbrev pub settled_order : ℕ → ℕ → ℕ
settled_order k c = pick (eqb c 1) 2 (order k)

abbrev pub drawn_order : List ℤ → ℕ → ℕ → ℕ
drawn_order bonds c k = settled_order (kind bonds k) c

-- the matrix with one bond more, at both of its places
unfoldable pub with_order : List ℤ → ℕ → ℕ → List ℕ → List ℕ
with_order bonds c k o =
    let x = drawn_order bonds c k in
    bump (bump o (max_same * end1 bonds k + end2 bonds k) x) (max_same * end2 bonds k + end1 bonds k) x

abbrev pub with_bond : List ℤ → List ℕ → ℕ → List ℕ → List ℕ
with_bond bonds row k o = with_order bonds (get_or row k 0) k o

-- what the bond k adds to the sum of a row: its order after settling, times the keys of its ends, mixed
unfoldable pub bond_weight : List ℤ → List ℕ → ℕ → ℕ → ℕ
bond_weight bonds keys c k = drawn_order bonds c k * mixed (get_or keys (end1 bonds k) 0 + get_or keys (end2 bonds k) 0)

abbrev pub add_weight : List ℤ → List ℕ → List ℕ → ℕ → ℕ → ℕ
add_weight bonds keys row k s = s + bond_weight bonds keys (get_or row k 0) k

-- the sum of a row over m bonds
unfoldable pub row_sum : List ℤ → ℕ → List ℕ → List ℕ → ℕ
row_sum bonds m keys row = run (add_weight bonds keys row) 0 m 0

-- the ends of the bond k are below max_same, in their order
pub record Ends (bonds : List ℤ) (k : ℕ) : Type 0 where
  pub few : k < max_bonds
  pub order : end1 bonds k < end2 bonds k
  pub second : end2 bonds k < max_same

-- so are those of m bonds, and the row has a cell for each
pub record Drawable (bonds : List ℤ) (m : ℕ) (row : List ℕ) : Type 0 where
  pub few : m ≤ max_bonds
  pub room : m ≤ length row
  pub ends : (k : ℕ) → k < m → Ends bonds k

-- atoms with no bonds, for the comparison of their cells
abbrev pub atoms_only : List ℤ → Molecule
atoms_only atoms = record { atoms = atoms; bonds = []; n = 0; m = 0 }

-- an atom may go to another: their keys are equal, and their cells match
abbrev pub may_go : List ℤ → List ℕ → List ℤ → List ℕ → ℕ → ℕ → Bool
may_go atoms1 keys1 atoms2 keys2 a b = eqb (get_or keys1 a 0) (get_or keys2 b 0) && same_cells (atoms_only atoms1) (atoms_only atoms2) a b

-- the cell i of the matrix of atoms that may go to one another
abbrev pub match_cell : List ℤ → List ℕ → List ℤ → List ℕ → ℕ → ℕ
match_cell atoms1 keys1 atoms2 keys2 i = flag (may_go atoms1 keys1 atoms2 keys2 (i / max_same) (i % max_same))

-- a matrix that holds, for each pair of atoms of a molecule, four times their key and the order between them
pub record Orders (x : Molecule) (q : ℕ → ℕ → ℕ) (o : List ℕ) : Type 0 where
  pub at : (a b : ℕ) → a < x.n → b < x.n → entry o a b ≡ 4 * q a b + order_between x a b

-- a matrix that holds 1 for each pair of atoms of two molecules with equal keys and cells that match
pub record Matches (x y : Molecule) (keys1 keys2 ok : List ℕ) : Type 0 where
  pub at : (a d : ℕ) → a < x.n → d < max_same → entry ok a d ≡ flag (eqb (get_or keys1 a 0) (get_or keys2 d 0) && same_cells x y a d)
