use mir.Facts.{to_z-of_z}
use Rattle.table_validity.proofs.selected_ok.Goals as goal

pub returns : goal.returns
returns c = let f = c.ranges in
    simp (c.selectable.ensures, c.number.ensures, c.within.ensures, c.number-plain.ensures, to_z-of_z f.element, to_z-of_z f.selected)
