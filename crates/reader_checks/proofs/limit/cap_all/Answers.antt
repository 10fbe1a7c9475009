use mathlib.Core.Path.{ap}
use lib.ListN.{set}
use Rattle.loops.proofs.Loops.{ran-start, ran-step, ran-end}
use Rattle.reading_pieces.specs.State.{capped}
use Rattle.reader_checks.proofs.limit.cap_all.Goals as goal

pub loop-i-init : goal.loop-i-init
loop-i-init g c = ran-start

pub loop-i-preserved : goal.loop-i-preserved
loop-i-preserved g c = ran-step c.loop-i.invariant _ c.loop-i-test.true (ap (set c.loop-i.l c.loop-i.i) c.cap.ensures)

pub returns : goal.returns
unfolding capped
returns g c = ran-end c.loop-i.invariant c.loop-i-test.false
