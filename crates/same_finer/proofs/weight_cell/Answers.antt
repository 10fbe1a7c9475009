use Rattle.same_finer.proofs.Low.{cell_self, cell_other}
use Rattle.same_finer.proofs.weight_cell.Goals as goal

pub returns-then-i : goal.returns-then-i
returns-then-i c = cell_self c.args.o.now c.args.i c.if-i.true

pub returns : goal.returns
returns c = cell_other c.args.o.now c.args.i c.if-i.false c.weight.ensures
