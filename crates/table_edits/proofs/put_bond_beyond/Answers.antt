use mir.Val.{SFits}
use mir.Syntax.{w32}
use mir.Facts.{to_z-of_z}
use Rattle.table.proofs.Rows.{put-bond-law}
use Rattle.table_edits.proofs.put_bond_beyond.Goals as goal

pub returns : goal.returns
returns c =
    let x = c.args.x in
    let w = c.struct_told-3-1.given in
    let e1 : SFits w32 x.first = record { sfits = w.0.1 } in
    let e2 : SFits w32 x.second = record { sfits = w.1.0.1 } in
    let e3 : SFits w32 x.kind = record { sfits = w.1.1.0.1 } in
    put-bond-law c.args.t.now c.args.b.0 x
    c.put_bond_cell.ensures (to_z-of_z e1)
    c.put_bond_cell-2.ensures (to_z-of_z e2)
    c.put_bond_cell-3.ensures (to_z-of_z e3)
