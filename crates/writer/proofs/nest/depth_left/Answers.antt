use Rattle.writer.proofs.Nesting.{left-root, left-first, left-later}
use mathlib.Core.Path.{refl}
use native.Mathlib.Omega.{arith}
use Rattle.writer.proofs.nest.depth_left.Goals as goal

pub returns-then-up-eq0 : goal.returns-then-up-eq0
returns-then-up-eq0 c = left-root _ _ _ c.if-up-eq0.true

pub returns-then-up-x : goal.returns-then-up-x
returns-then-up-x c = left-first _ _ _ c.if-up-eq0.false c.if-up-x.true

pub returns-then-depth-eq0 : goal.returns-then-depth-eq0
returns-then-depth-eq0 c = left-later _ _ _ 0 c.if-up-eq0.false c.if-up-x.false (omega arith)

pub returns : goal.returns
returns c = left-later _ _ _ _ c.if-up-eq0.false c.if-up-x.false refl
