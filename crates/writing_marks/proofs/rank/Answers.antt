use native.Mathlib.Omega.{arith}
use Rattle.writing_marks.proofs.Laws.{rank-parent, rank-child, rank-bridge}
use Rattle.writing_marks.proofs.rank.Goals as goal

pub overflow_cast-up : goal.overflow_cast-up
overflow_cast-up c = omega (arith, c.shared_slice_known-1.given c.args.x.0)

pub returns-then-up-i : goal.returns-then-up-i
returns-then-up-i c = rank-parent _ _ _ _ c.if-up-i.true

pub overflow_cast-up-2 : goal.overflow_cast-up-2
overflow_cast-up-2 c = omega (arith, c.shared_slice_known-2-1.given c.args.y.0)

pub returns-then-up-j : goal.returns-then-up-j
returns-then-up-j c = rank-child _ _ _ _ c.if-up-i.false c.if-up-j.true

pub returns : goal.returns
returns c = rank-bridge _ _ _ _ c.if-up-i.false c.if-up-j.false
