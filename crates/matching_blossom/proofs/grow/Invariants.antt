use Prim.Native.Nat.{◌≤◌}
use mathlib.Core.Path.{◌≡◌}
use lib.ListN.{length}
use Rattle.matching.specs.Limits.{max_atoms}
use Rattle.matching_blossom.proofs.grow.Given as goal

abbrev pub invariant-loop-at : goal.invariant-loop-at
invariant-loop-at l = (l.at ≤ max_atoms) × ((length l.up ≡ length l.initial.up) × ((length l.base ≡ length l.initial.base) × (length l.outer ≡ length l.initial.outer)))
