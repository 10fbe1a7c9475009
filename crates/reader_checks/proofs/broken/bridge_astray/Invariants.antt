use Prim.Native.Nat.{◌≤◌}
use mathlib.Core.Path.{◌≡◌}
use mathlib.Core.Bool.{not}
use lib.ListN.{get_or}
use lib.Dec.{leb}
use Rattle.loops.specs.Loop.{each}
use Rattle.ids.specs.Limits.{bridges}
use Rattle.reader_checks.proofs.broken.bridge_astray.Given as goal

abbrev pub invariant-loop-r : goal.invariant-loop-r
invariant-loop-r l = (l.r ≤ bridges) × (l.bad ≡ not (each (λ k. leb (get_or l.openers k 0) l.n) 0 l.r))
