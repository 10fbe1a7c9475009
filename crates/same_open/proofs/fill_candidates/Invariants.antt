use Prim.Native.Nat.{◌-◌}
use Rattle.same_open.proofs.Seeking.{Filled, Candidates}
use Rattle.same_open.proofs.fill_candidates.Given as goal

abbrev pub invariant-loop-a : goal.invariant-loop-a
invariant-loop-a l = Filled (Candidates l.ok l.n) l.n l.a l.cand
