use native.Mathlib.Omega.{arith}
use mathlib.Core.Path.{refl}
use Rattle.loops.specs.Loop.{each}
use Rattle.reader_checks.proofs.Astray.{bridge-more, bridge-all}
use Rattle.reader_checks.proofs.broken.bridge_astray.Goals as goal

pub loop-r-init : goal.loop-r-init
unfolding each
loop-r-init c = (omega arith, refl)

pub loop-r-preserved : goal.loop-r-preserved
loop-r-preserved c = (omega arith, bridge-more c.args.n c.args.openers.now c.loop-r.r c.loop-r.invariant.1)

pub returns : goal.returns
returns c = bridge-all c.args.n c.args.openers.now c.loop-r.r c.loop-r.invariant.0 c.loop-r-test.false c.loop-r.invariant.1
