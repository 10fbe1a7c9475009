use native.Mathlib.Omega.{arith}
use native.Mathlib.Nat.{add-zero}
use native.Mathlib.Numerals.{towards_suc}
use lib.ListN.{length-set}
use mir.Val.{SFits}
use mir.Syntax.{w32}
use mir.Facts.{to_z-of_z}
use Rattle.table.specs.Rows.{with_bond}
use Rattle.table_edits.proofs.lay_bond.Goals as goal

pub bounds-t-p-2 : goal.bounds-t-p-2
bounds-t-p-2 c = simp length-set (omega arith)

pub bounds-t-p-3 : goal.bounds-t-p-3
bounds-t-p-3 c = simp length-set (omega arith)

pub returns : goal.returns
unfolding with_bond
returns c = let x = c.args.x in
    let w = c.struct_told-3-1.given in
    let e1 : SFits w32 x.first = record { sfits = w.0.1 } in
    let e2 : SFits w32 x.second = record { sfits = w.1.0.1 } in
    let e3 : SFits w32 x.kind = record { sfits = w.1.1.0.1 } in
    simp (to_z-of_z e1, to_z-of_z e2, to_z-of_z e3, add-zero, towards_suc)
