use mir.Facts.{to_z-of_z}
use Rattle.table.proofs.row.get_bond_beyond.Goals as goal

pub returns : goal.returns
returns c = let e1 = c.bond_cell.ensures in
    let e2 = c.bond_cell-2.ensures in
    let e3 = c.bond_cell-3.ensures in record { value = simp (to_z-of_z e1.sfits, to_z-of_z e2.sfits, to_z-of_z e3.sfits) (simp (e1.value, e2.value, e3.value)); bond_fits = record { first = simp (to_z-of_z e1.sfits) e1.sfits; second = simp (to_z-of_z e2.sfits) e2.sfits; kind = simp (to_z-of_z e3.sfits) e3.sfits } }
