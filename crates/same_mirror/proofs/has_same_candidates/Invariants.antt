use Prim.Native.Nat.{ℕ, ◌-◌, ◌<◌}
use lib.ListN.{get_or}
use Rattle.same_mirror.proofs.Checking.{All, Carried}
use Rattle.same_mirror.proofs.has_same_candidates.Given as goal

abbrev pub invariant-loop-a : goal.invariant-loop-a
invariant-loop-a l = All (λ x. (e : ℕ) → e < l.n → Carried l.like (get_or l.cand x 0) (get_or l.cand x 0) e) l.n l.a
