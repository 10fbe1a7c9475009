use native.Mathlib.Omega.{arith}
use mathlib.Core.Path.{ap}
use lib.ListN.{length}
use Rattle.loops.proofs.Loops.{ran-start, ran-step, ran-end}
use Rattle.same_finer.specs.Finer.{finer}
use Rattle.same_finer.proofs.Keeping.{as-rounded, rounded-long}
use Rattle.same_finer.proofs.make_finer.Goals as goal

pub loop-i-init : goal.loop-i-init
loop-i-init c = (ran-start, c.requires.1)

pub round-requires : goal.round-requires
round-requires c = (c.requires.0, c.loop-i.invariant.1, c.loop-i.invariant.1, c.requires.2)

pub loop-i-preserved : goal.loop-i-preserved
loop-i-preserved c = let e = as-rounded c.args.weights.w.now c.args.n c.loop-i.keys c.round.ensures in
    (ran-step c.loop-i.invariant.0 _ c.loop-i-test.true e, omega (arith, ap length e, rounded-long c.args.weights.w.now c.args.n c.loop-i.keys))

pub returns : goal.returns
unfolding finer
returns c = ran-end c.loop-i.invariant.0 c.loop-i-test.false
