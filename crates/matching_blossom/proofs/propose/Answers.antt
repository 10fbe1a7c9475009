use Prim.Native.Nat.{◌≤◌}
use mathlib.Core.Path.{sym}
use native.Mathlib.Omega.{arith}
use lib.Seq.{length-take-le}
use Rattle.ids.specs.Limits.{max_atoms}
use Rattle.matching_blossom.proofs.propose.Goals as goal

pub slice_bounds-gather-end-2 : goal.slice_bounds-gather-end-2
slice_bounds-gather-end-2 c = let few : c.min-n.result ≤ max_atoms = omega arith in sym (length-take-le _ _ few)

pub slice_bounds-pair_all-end-2 : goal.slice_bounds-pair_all-end-2
slice_bounds-pair_all-end-2 c = let few : c.min-n.result ≤ max_atoms = omega arith in sym (length-take-le _ _ few)

pub slice_bounds-pair_all-end-3 : goal.slice_bounds-pair_all-end-3
slice_bounds-pair_all-end-3 c = let few : c.min-n.result ≤ max_atoms = omega arith in sym (length-take-le _ _ few)

pub slice_bounds-pair_all-end-4 : goal.slice_bounds-pair_all-end-4
slice_bounds-pair_all-end-4 c = let few : c.min-n.result ≤ max_atoms = omega arith in sym (length-take-le _ _ few)
