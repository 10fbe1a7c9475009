use Prim.Native.Nat.{◌-◌}
use lib.Dec.{eqb}
use Rattle.loops.proofs.Loops.{Left}
use Rattle.table.specs.Cells.{mark}
use Rattle.reader.proofs.ending.some_marked.Given as goal

abbrev pub invariant-loop-i : goal.invariant-loop-i
invariant-loop-i l = Left (λ a. eqb (mark l.atoms a) 0) l.n l.i
