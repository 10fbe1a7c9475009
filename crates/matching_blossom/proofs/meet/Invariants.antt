use Prim.Native.Nat.{◌≤◌, ◌-◌}
use Rattle.matching.specs.Limits.{max_atoms}
use Rattle.matching_blossom.proofs.meet.Given as goal

abbrev pub invariant-loop : goal.invariant-loop
invariant-loop l = l.counter ≤ max_atoms

abbrev pub decreases-loop : goal.decreases-loop
decreases-loop l = max_atoms - l.counter
