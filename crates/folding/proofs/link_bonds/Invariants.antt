use Prim.Native.Nat.{◌≤◌}
use mathlib.Core.Path.{◌≡◌}
use lib.ListN.{length}
use Rattle.folding.proofs.Links.{links_to}
use Rattle.folding.proofs.link_bonds.Given as goal

abbrev pub invariant-loop-i : goal.invariant-loop-i
invariant-loop-i l = (l.i ≤ l.m) × (l.links ≡ links_to l.bonds l.i (length l.initial.links))
