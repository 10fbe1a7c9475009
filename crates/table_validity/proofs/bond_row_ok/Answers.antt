use mir.Facts.{to_z-of_z}
use Rattle.table.specs.Valid.{bond_row_ok}
use Rattle.table_validity.proofs.bond_row_ok.Goals as goal

pub returns : goal.returns
unfolding bond_row_ok
returns c = let f = c.requires in
    simp (c.within.ensures, c.number-f.ensures, c.number-e.ensures, to_z-of_z f.first, to_z-of_z f.second, to_z-of_z f.kind)
