use Rattle.writing_bridges.proofs.Laws.{near-start}
use Rattle.writing_bridges.specs.Slots.{Near}
use mathlib.Core.Path.{◌≡◌, subst}
use Prim.Native.Nat.{ℕ}
use native.Mathlib.Omega.{arith}
use Rattle.writing_bridges.proofs.nearest.Goals as goal

pub loop-i-init : goal.loop-i-init
loop-i-init c = (omega arith, near-start)

pub nearer-best-requires : goal.nearer-best-requires
nearer-best-requires c = record { k_in_bounds = c.requires; i_lt_k = c.loop-i-test.true }

pub loop-i-preserved : goal.loop-i-preserved
loop-i-preserved c = (omega arith, c.nearer-best.ensures c.loop-i.invariant.1)

pub returns : goal.returns
returns c = let e : c.loop-i.i ≡ c.args.k = omega arith in let a = c.args in subst (λ (j : ℕ). Near a.ends.now a.keys.now a.x.0 a.from.0 a.k j c.loop-i.best.0) e c.loop-i.invariant.1
