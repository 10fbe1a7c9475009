use Prim.Native.Nat.{◌≤◌}
use mathlib.Core.Path.{◌≡◌}
use lib.ListN.{length}
use Rattle.table_validity.proofs.Degrees.{degrees_to}
use Rattle.table_validity.proofs.late.count_bonds.Given as goal

abbrev pub invariant-loop-i : goal.invariant-loop-i
invariant-loop-i l = (l.i ≤ l.m) × (l.degrees ≡ degrees_to l.bonds l.i (length l.initial.degrees))
