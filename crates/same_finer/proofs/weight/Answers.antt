use mathlib.Core.Path.{refl}
use Rattle.same_finer.proofs.Low.{weight-0, weight-1, weight-2, weight-3}
use Rattle.same_finer.proofs.weight.Goals as goal

pub returns-then-y-eq0 : goal.returns-then-y-eq0
returns-then-y-eq0 c = weight-0 _ _ refl c.if-y-eq0.true

pub returns-then-y-eq1 : goal.returns-then-y-eq1
returns-then-y-eq1 c = weight-1 _ _ refl c.if-y-eq1.true

pub returns-then-y-eq2 : goal.returns-then-y-eq2
returns-then-y-eq2 c = weight-2 _ _ refl c.if-y-eq2.true

pub returns : goal.returns
returns c = weight-3 _ _ refl c.if-y-eq0.false c.if-y-eq1.false c.if-y-eq2.false
