use Rattle.writing_bridges.specs.Unused.{bond_arrays, add_bond, in_walk, Marked}
use Rattle.writing_visit.specs.Wires.{wires}
use Rattle.loops.proofs.Loops.{Ran}
use mathlib.Core.Path.{◌≡◌}
use lib.ListN.{length}
use Prim.Native.Nat.{◌≤◌}
use Rattle.writing_bridges.proofs.unused.unused.Given as goal

abbrev pub invariant-loop-b : goal.invariant-loop-b
invariant-loop-b l = Ran (λ i. add_bond l.trail.up.now (in_walk (wires l.wiring.first.now l.wiring.second.now l.wiring.kinds.now) l.n l.m i)) (bond_arrays l.initial.los l.initial.his l.initial.kinds 0) l.m l.b (bond_arrays l.los l.his l.kinds l.used) × (l.used ≤ l.b) × (length l.los ≡ length l.initial.los) × (length l.his ≡ length l.initial.his) × (length l.kinds ≡ length l.initial.kinds) × Marked l.marks l.los l.his l.used × (length l.marks ≡ length l.initial.marks)
