use Rattle.withdrawal.specs.Walk.{Seen}
use Rattle.same_model.specs.Same.{molecule}
use Prim.Native.Nat.{◌-◌}
use Rattle.withdrawal.proofs.walk.walk.Given as goal

abbrev pub invariant-loop-p : goal.invariant-loop-p
invariant-loop-p l = Seen l.held (molecule l.tables.atoms.now l.tables.bonds.now l.tables.n l.tables.m) l.unsure l.p
