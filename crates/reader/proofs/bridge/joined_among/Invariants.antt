use mathlib.Core.Bool.{not}
use Rattle.reading.specs.Memory.{joins}
use Rattle.loops.proofs.Loops.{Left}
use Rattle.reader.proofs.bridge.joined_among.Given as goal

abbrev pub invariant-loop-i : goal.invariant-loop-i
invariant-loop-i l = Left (λ j. not (joins l.bonds l.a.0 l.b.0 j)) l.fn.m.0 l.i
