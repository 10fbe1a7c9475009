-- By computation: a drawn hydrogen and a map number do not hide a compound, and an isotope is another compound. Assumes nothing.
use mathlib.Core.Path.{◌≡◌, refl}
use mathlib.Core.List.{List, [], ◌∷◌, ◌++◌}
use Prim.Native.Nat.{ℕ}
use native.Mathlib.Omega.{arith}
use lib.IntN.{ℤ, pos}
use Rattle.loops.specs.Loop.{each, run, how_many}
use Rattle.kinds.specs.Kind.{order}
use Rattle.table.specs.Cells.{number, touches}
use Rattle.table.specs.Sound.{bond_degree}
use Rattle.table.specs.Orders.{bonds_from, bonds_at}
use Rattle.valence.specs.Valence.{delocalized}
use Rattle.table_graph.specs.Graph.{share, bond_sum}
use Rattle.same_model.specs.Same.{Molecule, molecule, same_cells, joins, order_between}
use Rattle.folding.specs.Folding.{bared_atoms, bare_bond, bared_bonds, neighbour, plain_row, plain_hydrogen, folds, fold_into, folded_to, goes, bond_stays, packed, merged, folded}
use Rattle.redrawing.specs.Redrawn.{Redrawn}
use Rattle.redrawing.proofs.Tested.{tested-drawing}

-- an atom by element, isotope, hydrogens and extension
abbrev atom : ℕ → ℕ → ℕ → ℕ → List ℤ
atom e i h x = pos e ∷ pos 0 ∷ pos i ∷ pos h ∷ pos 0 ∷ pos x ∷ pos 0 ∷ []

-- `C`, `[H]C`, `[CH4:1]` and `[2H]C`
abbrev pub methane : Molecule
methane = molecule (atom 6 0 4 0) [] 1 0

abbrev pub drawn_hydrogen : Molecule
drawn_hydrogen = molecule (atom 1 0 0 0 ++ atom 6 0 3 0) (pos 0 ∷ pos 1 ∷ pos 0 ∷ []) 2 1

abbrev pub mapped : Molecule
mapped = molecule (atom 6 0 4 1) [] 1 0

abbrev pub deuterated : Molecule
deuterated = molecule (atom 1 2 0 0 ++ atom 6 0 3 0) (pos 0 ∷ pos 1 ∷ pos 0 ∷ []) 2 1

pub hydrogen-drawn : Redrawn drawn_hydrogen methane
unfolding each same_cells order_between joins bond_sum share touches run number order delocalized how_many bond_degree bonds_from bonds_at bared_atoms bare_bond bared_bonds neighbour plain_row plain_hydrogen folds fold_into folded_to goes bond_stays packed merged
hydrogen-drawn = record { drawing = tested-drawing (folded drawn_hydrogen) (folded methane) (record { counts = refl; cells = refl; bonds = refl; sums = refl }) }

pub number-drawn : Redrawn mapped methane
unfolding each same_cells order_between joins bond_sum share touches run number order delocalized how_many bond_degree bonds_from bonds_at bared_atoms bare_bond bared_bonds neighbour plain_row plain_hydrogen folds fold_into folded_to goes bond_stays packed merged
number-drawn = record { drawing = tested-drawing (folded mapped) (folded methane) (record { counts = refl; cells = refl; bonds = refl; sums = refl }) }

-- `[2H]` is not folded, so two atoms are left
pub isotope-apart : Redrawn deuterated methane → ⊥
unfolding run number touches how_many bond_degree bonds_from bonds_at share bond_sum order bared_atoms bare_bond bared_bonds neighbour plain_row plain_hydrogen folds fold_into folded_to goes bond_stays packed merged
isotope-apart w = let e : ◌≡◌ {A = ℕ} 2 1 = w.drawing.counts in absurd (omega (arith, e))
