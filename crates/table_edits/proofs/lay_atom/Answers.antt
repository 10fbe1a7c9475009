use native.Mathlib.Omega.{arith}
use native.Mathlib.Nat.{add-zero}
use native.Mathlib.Numerals.{towards_suc}
use lib.ListN.{length-set}
use mir.Val.{SFits}
use mir.Syntax.{w32}
use mir.Facts.{to_z-of_z}
use Rattle.table.specs.Rows.{with_atom}
use Rattle.table_edits.proofs.lay_atom.Goals as goal

pub bounds-t-p-2 : goal.bounds-t-p-2
bounds-t-p-2 c = simp length-set (omega arith)

pub bounds-t-p-3 : goal.bounds-t-p-3
bounds-t-p-3 c = simp length-set (omega arith)

pub bounds-t-p-4 : goal.bounds-t-p-4
bounds-t-p-4 c = simp length-set (omega arith)

pub bounds-t-p-5 : goal.bounds-t-p-5
bounds-t-p-5 c = simp length-set (omega arith)

pub bounds-t-p-6 : goal.bounds-t-p-6
bounds-t-p-6 c = simp length-set (omega arith)

pub bounds-t-p-7 : goal.bounds-t-p-7
bounds-t-p-7 c = simp length-set (omega arith)

pub shape_of-t : goal.shape_of-t
shape_of-t c = simp length-set

pub returns : goal.returns
unfolding with_atom
returns c = let x = c.args.x in
    let w = c.struct_told-7-1.given in
    let e1 : SFits w32 x.element = record { sfits = w.0.1 } in
    let e2 : SFits w32 x.selected = record { sfits = w.1.0.1 } in
    let e3 : SFits w32 x.isotope = record { sfits = w.1.1.0.1 } in
    let e4 : SFits w32 x.hydrogens = record { sfits = w.1.1.1.0.1 } in
    let e5 : SFits w32 x.charge = record { sfits = w.1.1.1.1.0.1 } in
    let e6 : SFits w32 x.extension = record { sfits = w.1.1.1.1.1.0.1 } in
    let e7 : SFits w32 x.mark = record { sfits = w.1.1.1.1.1.1.0.1 } in
    simp (to_z-of_z e1, to_z-of_z e2, to_z-of_z e3, to_z-of_z e4, to_z-of_z e5, to_z-of_z e6, to_z-of_z e7, add-zero, towards_suc)
