use native.Mathlib.Omega.{arith}
use Rattle.loops.proofs.Loops.{edited-start, filled-step, filled-end}
use Rattle.table.proofs.Valid.{mark-small}
use Rattle.table.proofs.Sound.{not-unfit}
use Rattle.writing_marks.proofs.fill_marks.Goals as goal

pub loop-a-init : goal.loop-a-init
loop-a-init c = edited-start

pub turned_mark-requires : goal.turned_mark-requires
turned_mark-requires c = let v = c.requires.valid in
    let l = c.loop-a-test.true in record { a_lt_max_atoms = (omega (arith, v.atoms_few), v.bonds_few, c.requires.m_in_bounds.0); a_bound = (mark-small v c.loop-a.a l, not-unfit _ _ _ _ c.requires.m_value c.loop-a.a l) }

pub bounds-written-a : goal.bounds-written-a
bounds-written-a c = omega (arith, c.loop-a.invariant.room)

pub loop-a-preserved : goal.loop-a-preserved
loop-a-preserved c = filled-step c.loop-a.invariant _ c.loop-a-test.true c.turned_mark.ensures

pub shape_of-written : goal.shape_of-written
shape_of-written c = c.loop-a.invariant.room

pub returns : goal.returns
returns c = filled-end c.loop-a.invariant c.requires.m_in_bounds.1 c.loop-a-test.false
