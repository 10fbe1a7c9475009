use Prim.Native.Nat.{ℕ}
use mathlib.Core.Path.{refl}
use native.Mathlib.Omega.{arith}
use lib.ListN.{length-replicate}
use Rattle.loops.proofs.Loops.{edited-start, filled-step, filled-end}
use Rattle.same_finer.proofs.Low.{as-next-key}
use Rattle.same_finer.proofs.round.Goals as goal

pub mix_all-requires : goal.mix_all-requires
mix_all-requires c = (c.requires.2, let l = length-replicate {A = ℕ} 64 0 in omega (arith, c.requires.0))

pub loop-a-init : goal.loop-a-init
loop-a-init c = edited-start

pub next_key-requires : goal.next_key-requires
next_key-requires c = (c.requires.0, omega (arith, c.requires.0, c.loop-a-test.true), c.requires.3 c.loop-a.a c.loop-a-test.true)

pub loop-a-preserved : goal.loop-a-preserved
loop-a-preserved c = filled-step c.loop-a.invariant _ c.loop-a-test.true (as-next-key c.args.weights.w.now c.args.old.now c.args.n c.loop-a.a _ c.mix_all.ensures refl c.next_key.ensures)

pub returns : goal.returns
returns c = filled-end c.loop-a.invariant c.requires.1 c.loop-a-test.false
