use Prim.Native.Nat.{◌≤◌}
use mathlib.Core.Path.{◌≡◌}
use lib.ListN.{length, drop}
use Rattle.report_lines.specs.Cut.{max_line, gathered, cut_of}
use Rattle.report_lines.proofs.input.Line.fill.Given as goal

abbrev pub invariant-loop-i : goal.invariant-loop-i
invariant-loop-i l = (cut_of (gathered l.initial.self) (drop l.from l.s) ≡ cut_of (gathered l.self) (drop l.i l.s)) × (l.from ≤ l.i) × (l.from ≤ length l.s → l.i ≤ length l.s) × (l.self.len ≤ max_line) × (length l.self.bytes ≡ max_line)
