use native.Mathlib.Omega.{arith}
use Prim.Native.Nat.{◌-◌}
use Rattle.matching_forced.proofs.Listed.{back_start, back_step, back_end}
use Rattle.matching_forced.proofs.Tables.{ends-long}
use Rattle.matching_forced.proofs.undo.Goals as goal

pub loop-i-init : goal.loop-i-init
loop-i-init c = back_start c.requires.ones.upto

pub mark-requires : goal.mark-requires
mark-requires c = ends-long c.loop-i.auto.need (c.requires.by_index _ (c.requires.ones.cells (c.loop-i.i - 1) (omega (arith, c.loop-i.invariant.upto))))

pub loop-i-preserved : goal.loop-i-preserved
loop-i-preserved c = back_step c.loop-i.invariant c.requires.ones.upto c.loop-i-test.true c.mark.ensures

pub returns : goal.returns
returns c = back_end c.loop-i.invariant c.loop-i-test.false
