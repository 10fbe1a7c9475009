use native.Mathlib.Omega.{arith}
use Rattle.reader_pieces.proofs.Cleared.{clearing-start, clearing-step, clearing-end}
use Rattle.reader_pieces.proofs.answer.clear_from.Goals as goal

pub loop-i-init : goal.loop-i-init
loop-i-init c = clearing-start

pub offset_bounds-t-i : goal.offset_bounds-t-i
offset_bounds-t-i c = omega (arith, c.well_formed.0.1)

pub loop-i-preserved : goal.loop-i-preserved
loop-i-preserved c = clearing-step c.loop-i.invariant c.loop-i-test.true

pub shape_of-t : goal.shape_of-t
shape_of-t c = c.loop-i.invariant.room

pub returns : goal.returns
returns c = clearing-end c.loop-i.invariant c.loop-i-test.false
