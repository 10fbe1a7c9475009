use native.Mathlib.Omega.{arith}
use Rattle.loops.proofs.Loops.{edited-start, edited-step, edited-end}
use Rattle.table.specs.Edits.{unselected_atoms}
use Rattle.table_edits.proofs.kekulize.unselect_atoms.Goals as goal

pub loop-i-init : goal.loop-i-init
loop-i-init c = edited-start

pub put_atom_cell-requires : goal.put_atom_cell-requires
put_atom_cell-requires c = (omega arith, omega arith)

pub loop-i-preserved : goal.loop-i-preserved
loop-i-preserved c = let l = c.loop-i in
    edited-step l.invariant _ c.loop-i-test.true c.put_atom_cell.ensures c.put_atom_cell.auto.t

pub shape_of-atoms : goal.shape_of-atoms
shape_of-atoms c = c.loop-i.invariant.room

pub returns : goal.returns
unfolding unselected_atoms
returns c = edited-end c.loop-i.invariant c.loop-i-test.false
