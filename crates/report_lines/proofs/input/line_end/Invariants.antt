use Rattle.report_lines.proofs.Ends.{Seeks}
use Rattle.report_lines.proofs.input.line_end.Given as goal

abbrev pub invariant-loop-i : goal.invariant-loop-i
invariant-loop-i l = Seeks l.s l.from l.i
