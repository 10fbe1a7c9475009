use Prim.Native.Nat.{◌≤◌, ◌-◌}
use mathlib.Core.Path.{◌≡◌}
use lib.ListN.{length}
use Rattle.matching.specs.Limits.{max_atoms}
use Rattle.matching_blossom.proofs.climb.Given as goal

abbrev pub invariant-loop : goal.invariant-loop
invariant-loop l = (l.counter ≤ max_atoms) × (length l.seen ≡ length l.initial.seen)

abbrev pub decreases-loop : goal.decreases-loop
decreases-loop l = max_atoms - l.counter
