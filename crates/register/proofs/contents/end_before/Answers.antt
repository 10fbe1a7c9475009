use native.Mathlib.Omega.{arith}
use Rattle.register.proofs.Paths.{end-first, end-next}
use Rattle.register.proofs.contents.end_before.Goals as goal

pub returns-then-j-eq0 : goal.returns-then-j-eq0
returns-then-j-eq0 c = record { value = end-first c.args.r.now c.args.j c.if-j-eq0.true; upper_bound = omega arith }

pub returns : goal.returns
returns c = record { value = end-next c.args.r.now c.args.j _ _ (omega arith) c.start.ensures.value c.length.ensures.value; upper_bound = omega arith }
