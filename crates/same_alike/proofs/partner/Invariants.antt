use Prim.Native.Nat.{◌-◌, ◌≤◌}
use Rattle.same_alike.proofs.partner.Given as goal

abbrev pub invariant-loop-w : goal.invariant-loop-w
invariant-loop-w l = l.w ≤ l.n
