use Rattle.report_lines.specs.Cut.{Bounded}
use Rattle.report.proofs.read_all.Given as goal

abbrev pub invariant-loop : goal.invariant-loop
invariant-loop g l = Bounded l.progress.line
