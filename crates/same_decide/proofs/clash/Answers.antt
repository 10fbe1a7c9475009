use native.Mathlib.Omega.{arith}
use Prim.Native.Nat.{ℕ}
use mathlib.Core.Path.{◌≡◌}
use Rattle.same_decide.proofs.clash.Goals as goal

pub returns-then-not-tried : goal.returns-then-not-tried
returns-then-not-tried c = λ x e. let q : c.loop-to.to ≡ x = cc in rw (← q) (c.loop-to-test.true, c.ask_part-tried.ensures c.if-not-tried.true (omega arith))
