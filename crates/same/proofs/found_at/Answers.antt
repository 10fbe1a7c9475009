use mathlib.Core.Path.{refl}
use Rattle.same.proofs.Deciding.{number_in, number-out}
use Rattle.same.proofs.found_at.Goals as goal

pub returns-then-i-n : goal.returns-then-i-n
returns-then-i-n c = number_in c.args.found.now c.args.n c.args.i c.if-i-n.true refl

pub returns : goal.returns
returns c = number-out c.args.found.now c.args.n c.args.i c.if-i-n.false
