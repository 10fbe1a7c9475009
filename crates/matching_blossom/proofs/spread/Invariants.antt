use Prim.Native.Nat.{◌≤◌, ◌-◌, ◌*◌}
use mathlib.Core.Path.{◌≡◌}
use lib.ListN.{length}
use Rattle.matching.specs.Limits.{max_bonds}
use Rattle.matching_blossom.proofs.spread.Given as goal

abbrev pub invariant-loop : goal.invariant-loop
invariant-loop l = (l.counter ≤ 2 * max_bonds) × ((length l.up ≡ length l.initial.up) × ((length l.base ≡ length l.initial.base) × (length l.outer ≡ length l.initial.outer)))

abbrev pub decreases-loop : goal.decreases-loop
decreases-loop l = 2 * max_bonds - l.counter
