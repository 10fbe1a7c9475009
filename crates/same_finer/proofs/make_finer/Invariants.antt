use Prim.Native.Nat.{◌-◌, ◌≤◌}
use lib.ListN.{length}
use Rattle.loops.proofs.Loops.{Ran}
use Rattle.same_finer.specs.Finer.{rounded_again}
use Rattle.same_finer.proofs.make_finer.Given as goal

abbrev pub invariant-loop-i : goal.invariant-loop-i
invariant-loop-i l = Ran (rounded_again l.weights.w.now l.n) l.initial.keys l.r l.i l.keys × (l.n ≤ length l.keys)
