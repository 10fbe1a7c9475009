use Prim.Native.Nat.{ℕ, ◌+◌}
use native.Mathlib.Omega.{arith}
use mathlib.Core.Path.{ap}
use Rattle.loops.proofs.Counting.{counted_step, counted-end}
use Rattle.table.specs.Marks.{side, side_count}
use Rattle.table_marks.proofs.Laws.{one-there}
use Rattle.table_marks.proofs.crowded.Goals as goal

pub loop-i-preserved : goal.loop-i-preserved
loop-i-preserved c = let w = c.loop-i.invariant in
    let l = c.loop-i-test.true in
    let s = c.side-s.ensures in
    let k = side c.args.bonds.now c.args.a.0 c.loop-i.i in
    (counted_step w.0 _ l (ap (λ (x : ℕ). c.loop-i.above + x) (one-there k (omega arith) s c.eq.ensures c.from-above.ensures)), counted_step w.1 _ l (ap (λ (x : ℕ). c.loop-i.below + x) (one-there k (omega arith) s c.eq-in-loop-i.ensures c.from-below.ensures)))

pub returns : goal.returns
unfolding side_count
returns c = let w = c.loop-i.invariant in simp (counted-end w.0 c.loop-i-test.false, counted-end w.1 c.loop-i-test.false)
