use mathlib.Core.Path.{◌∙◌}
use native.Mathlib.Omega.{arith}
use mir.Val.{SFits}
use mir.Syntax.{w32}
use mir.Facts.{to_z-of_z}
use Rattle.table.proofs.Rows.{put-atom-law}
use Rattle.table_edits.proofs.put_atom_beyond.Goals as goal

pub put_atom_cell-requires-6 : goal.put_atom_cell-requires-6
put_atom_cell-requires-6 c = (c.requires, omega arith)

pub put_atom_cell-requires-7 : goal.put_atom_cell-requires-7
put_atom_cell-requires-7 c = (c.requires, omega arith)

pub shape_of-t : goal.shape_of-t
shape_of-t c =
    c.put_atom_cell-7.auto.t
    ∙ c.put_atom_cell-6.auto.t
    ∙ c.put_atom_cell-5.auto.t
    ∙ c.put_atom_cell-4.auto.t
    ∙ c.put_atom_cell-3.auto.t
    ∙ c.put_atom_cell-2.auto.t
    ∙ c.put_atom_cell.auto.t

pub returns : goal.returns
returns c =
    let x = c.args.x in
    let w = c.struct_told-7-1.given in
    let e1 : SFits w32 x.element = record { sfits = w.0.1 } in
    let e2 : SFits w32 x.selected = record { sfits = w.1.0.1 } in
    let e3 : SFits w32 x.isotope = record { sfits = w.1.1.0.1 } in
    let e4 : SFits w32 x.hydrogens = record { sfits = w.1.1.1.0.1 } in
    let e5 : SFits w32 x.charge = record { sfits = w.1.1.1.1.0.1 } in
    let e6 : SFits w32 x.extension = record { sfits = w.1.1.1.1.1.0.1 } in
    let e7 : SFits w32 x.mark = record { sfits = w.1.1.1.1.1.1.0.1 } in
    put-atom-law c.args.t.now c.args.a.0 x
    c.put_atom_cell.ensures (to_z-of_z e1)
    c.put_atom_cell-2.ensures (to_z-of_z e2)
    c.put_atom_cell-3.ensures (to_z-of_z e3)
    c.put_atom_cell-4.ensures (to_z-of_z e4)
    c.put_atom_cell-5.ensures (to_z-of_z e5)
    c.put_atom_cell-6.ensures (to_z-of_z e6)
    c.put_atom_cell-7.ensures (to_z-of_z e7)
