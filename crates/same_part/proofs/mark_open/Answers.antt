use native.Mathlib.Omega.{arith}
use Rattle.loops.proofs.Loops.{edited-start, filled-step, filled-end}
use Rattle.same_part.proofs.Opening.{bond-ends}
use Rattle.same_part.proofs.mark_open.Goals as goal

pub loop-k-init : goal.loop-k-init
loop-k-init c = edited-start

pub open_flag-requires : goal.open_flag-requires
open_flag-requires c = record { ends = (bond-ends c.requires c.loop-k-test.true).0; k_in_bounds = (bond-ends c.requires c.loop-k-test.true).1 }

pub bounds-opened-k : goal.bounds-opened-k
bounds-opened-k c = omega (arith, c.requires.room, c.loop-k.invariant.room, c.loop-k-test.true)

pub loop-k-preserved : goal.loop-k-preserved
loop-k-preserved c = filled-step c.loop-k.invariant _ c.loop-k-test.true c.open_flag.ensures

pub shape_of-opened : goal.shape_of-opened
shape_of-opened c = c.loop-k.invariant.room

pub returns : goal.returns
returns c = filled-end c.loop-k.invariant c.requires.room c.loop-k-test.false
