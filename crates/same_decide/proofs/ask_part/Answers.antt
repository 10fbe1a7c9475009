use mathlib.Core.Path.{subst}
use mathlib.Core.List.{List}
use Prim.Native.Nat.{ℕ}
use Rattle.same_decide.specs.Decide.{Nowhere}
use Rattle.same_decide.proofs.ask_part.Goals as goal

pub returns : goal.returns
returns c = λ f l. subst (λ (p : List ℕ). Nowhere p c.args.target.allowed.now c.args.target.ok.now c.args.target.n) c.fill_part.ensures (c.seek.ensures f l)
