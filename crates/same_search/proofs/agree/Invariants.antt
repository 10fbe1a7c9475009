use Prim.Native.Nat.{◌-◌}
use Rattle.loops.proofs.Loops.{Left}
use Rattle.same_search.specs.Search.{agreeing}
use Rattle.same_search.proofs.agree.Given as goal

abbrev pub invariant-loop-i : goal.invariant-loop-i
invariant-loop-i l = Left (agreeing l.ok l.k1 l.k2) l.end l.i
