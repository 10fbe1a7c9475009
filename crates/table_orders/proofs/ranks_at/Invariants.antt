use Prim.Native.Nat.{◌-◌}
use mathlib.Core.List.{◌++◌, map}
use Rattle.table.specs.Orders.{bonds_at, hydrogen_rank, at_end}
use Rattle.table_orders.proofs.Laws.{Filling}
use Rattle.table_orders.proofs.ranks_at.Given as goal

abbrev pub invariant-loop-k : goal.invariant-loop-k
invariant-loop-k l = Filling (at_end l.ranks l.bonds l.a.0) l.bonds l.a.0 l.m (hydrogen_rank l.h ++ map (at_end l.ranks l.bonds l.a.0) (bonds_at l.bonds l.m l.a.0)) l.four l.k l.i

abbrev pub decreases-loop-k : goal.decreases-loop-k
decreases-loop-k l = l.m - l.i
