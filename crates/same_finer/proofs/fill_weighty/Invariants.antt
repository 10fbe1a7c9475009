use Prim.Native.Nat.{◌-◌, ◌≤◌}
use lib.ListN.{length}
use Rattle.same_open.proofs.Seeking.{Filled}
use Rattle.same_finer.specs.Finer.{Near}
use Rattle.same_finer.proofs.fill_weighty.Given as goal

abbrev pub invariant-loop-a : goal.invariant-loop-a
invariant-loop-a l = Filled (Near l.w l.n) l.n l.a l.near × (l.n ≤ length l.near)
