use native.Mathlib.Omega.{arith}
use Rattle.loops.proofs.Loops.{edited-start, filled-step, filled-end}
use Rattle.same.proofs.Deciding.{handed}
use Rattle.same.proofs.hand_out.Goals as goal

pub loop-i-init : goal.loop-i-init
loop-i-init c = edited-start

pub found_at-requires : goal.found_at-requires
found_at-requires c = c.requires.0

pub loop-i-preserved : goal.loop-i-preserved
loop-i-preserved c = filled-step c.loop-i.invariant _ (omega (arith, c.loop-i.invariant.room, c.loop-i-test.true)) c.found_at.ensures

pub shape_of-ren : goal.shape_of-ren
shape_of-ren c = c.loop-i.invariant.room

pub returns : goal.returns
returns c = handed c.args.found.now c.args.n c.args.ren.now c.requires.1 c.requires.2 (filled-end c.loop-i.invariant (omega arith) (omega (arith, c.loop-i.invariant.room, c.loop-i-test.false)))
