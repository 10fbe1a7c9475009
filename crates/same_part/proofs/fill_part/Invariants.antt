use Prim.Native.Nat.{◌-◌}
use Rattle.same_part.proofs.Step.{Filling}
use Rattle.same_part.proofs.fill_part.Given as goal

abbrev pub invariant-loop-k : goal.invariant-loop-k
invariant-loop-k l = Filling l.fn.part.bonds.now l.fn.part.opened.now l.fn.part.row.now l.to l.initial.p l.fn.part.m l.k l.p
