-- auxiliary: what the buffers hold that the graph of a molecule is built in
use Rattle.std.specs.Prelude.{ℕ, ◌+◌, ◌<◌, ◌≤◌, ◌≡◌, List, length, take, get_or, set, ℤ, eqb}
use Rattle.loops.specs.Loop.{pick, up_to}
use Rattle.table.specs.Limits.{max_atoms, max_bonds, CHARGE}
use Rattle.table.specs.Cells.{atom_cell, element, selected, hydrogens, end1, end2, kind}
use Rattle.table.specs.Valid.{Valid}
use Rattle.kinds.specs.Kind.{order}
use Rattle.valence.specs.Valence.{delocalized}
use Rattle.table_graph.specs.Graph.{bond_sum, flag, delocalized_flags, elided_flag}

-- one bond sum raised
abbrev pub bump : List ℕ → ℕ → ℕ → List ℕ
bump sums i x = set sums i (get_or sums i 0 + x)

-- the bond sums with one bond more: its order added at each of its ends
unfoldable pub sums_with_bond : List ℤ → ℕ → List ℕ → List ℕ
sums_with_bond bonds b sums =
    let e = end1 bonds b in
    let f = end2 bonds b in
    let x = order (kind bonds b) in
    pick (eqb e f) (bump sums e x) (bump (bump sums e x) f x)

-- the flag of an atom, from the bond sums
abbrev pub sum_flag : List ℤ → List ℕ → ℕ → ℕ
sum_flag atoms sums a = flag (delocalized (element atoms a) (selected atoms a) (atom_cell atoms a CHARGE) (get_or sums a 0) (hydrogens atoms a))

-- what the flags are filled from: a bond sum and a cell for each of n atoms
pub record Summed (sums : List ℕ) (n : ℕ) (flags : List ℕ) : Type 0 where
  pub few : n ≤ max_atoms
  pub summed : n ≤ length sums
  pub room : n ≤ length flags

-- the bonds have two ends that fit, in their order, each of m a cell and each end a sum
pub record Wide (bonds : List ℤ) (m : ℕ) (ea eb el sums : List ℕ) : Type 0 where
  pub few : m ≤ max_bonds
  pub firsts : m ≤ length ea
  pub seconds : m ≤ length eb
  pub elided : m ≤ length el
  pub order : (b : ℕ) → b < m → end1 bonds b < end2 bonds b
  pub second_fits : (b : ℕ) → b < m → end2 bonds b < max_atoms
  pub second_summed : (b : ℕ) → b < m → end2 bonds b < length sums

-- buffers that hold the ends of m bonds, and which are elided, in their first cells
pub record Wired (bonds : List ℤ) (m : ℕ) (ea eb el : List ℕ) : Type 0 where
  pub first_part : take m ea ≡ up_to (end1 bonds) 0 m
  pub second_part : take m eb ≡ up_to (end2 bonds) 0 m
  pub elided_part : take m el ≡ up_to (elided_flag bonds) 0 m

-- valid tables, and the buffers that one pass over their bonds filled
pub record Prepared (atoms bonds : List ℤ) (n m : ℕ) (sums ea eb el : List ℕ) : Type 0 where
  pub valid : Valid atoms bonds n m
  pub wired : Wired bonds m ea eb el
  pub summed : sums ≡ up_to (bond_sum bonds m) 0 (length sums)
  pub room : n ≤ length sums

-- four buffers that hold the graph of a molecule in their first cells
pub record Built (atoms bonds : List ℤ) (n m : ℕ) (flags ea eb el : List ℕ) : Type 0 where
  pub delocalized_part : take n flags ≡ delocalized_flags atoms bonds n m
  pub bonds_part : Wired bonds m ea eb el

-- the buffers have a cell for each atom and for each bond
pub record Room (n m : ℕ) (flags ea eb el sums : List ℕ) : Type 0 where
  pub atoms : n ≤ length flags
  pub firsts : m ≤ length ea
  pub seconds : m ≤ length eb
  pub elided : m ≤ length el
  pub summed : n ≤ length sums
