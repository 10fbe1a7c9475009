use Prim.Native.Nat.{◌-◌, ◌≤◌}
use Rattle.same_search.proofs.key_in_column.Given as goal

abbrev pub invariant-loop-a : goal.invariant-loop-a
invariant-loop-a l = l.a ≤ l.n
