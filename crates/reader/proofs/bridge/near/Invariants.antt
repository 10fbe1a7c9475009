use Prim.Native.Nat.{◌-◌}
use Rattle.reader.specs.Bridge.{Away}
use Rattle.reader.proofs.bridge.near.Given as goal

abbrev pub invariant-loop-i : goal.invariant-loop-i
invariant-loop-i l = Away l.bonds l.a l.b l.i l.found
