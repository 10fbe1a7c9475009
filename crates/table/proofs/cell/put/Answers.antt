use lib.Seq.{set_out}
use mathlib.Core.Path.{sym}
use Rattle.table.proofs.cell.put.Goals as goal

pub returns-then-t-i : goal.returns-then-t-i
returns-then-t-i c = sym (set_out c.args.t.now c.args.i c.args.v c.if-t-i.true)
