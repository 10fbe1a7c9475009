use Prim.Native.Nat.{ℕ, ◌+◌, ◌*◌}
use lib.ListN.{set}
use mathlib.Core.Path.{ap}
use Rattle.loops.proofs.Loops.{ran-start, ran-step, ran-end}
use Rattle.same_keys.specs.Keys.{row_filled}
use Rattle.same_keys.proofs.fill_row.Goals as goal

pub loop-b-init : goal.loop-b-init
loop-b-init c = ran-start

pub loop-b-preserved : goal.loop-b-preserved
loop-b-preserved c = let v = c.loop-b in
    let g = c.args in
    ran-step v.invariant _ c.loop-b-test.true (ap (λ (z : ℕ). set v.pairs (64 * g.a + v.b) z) c.pair_cell.ensures)

pub returns : goal.returns
unfolding row_filled
returns c = ran-end c.loop-b.invariant c.loop-b-test.false
