use Prim.Native.Nat.{◌+◌, ◌-◌}
use lib.ListN.{take}
use Rattle.same_finer.specs.Finer.{Hopeless}
use Rattle.same_alike.proofs.mark.Given as goal

abbrev pub invariant-loop-e : goal.invariant-loop-e
invariant-loop-e l = Hopeless l.sides.o1.now l.sides.o2.now l.sides.ok.now l.sides.n (take l.placed.from l.placed.ren.now) (l.sides.n - (l.placed.from + 1)) l.dead
