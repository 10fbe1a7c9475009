use lib.ListN.{length}
use mathlib.Core.Path.{◌≡◌}
use Rattle.matching_engine.proofs.Lasts.{Noting}
use Rattle.matching_engine.proofs.fill_lasts.Given as goal

abbrev pub invariant-loop-j : goal.invariant-loop-j
invariant-loop-j l = Noting l.links.ends.first.now l.links.ends.second.now l.links.elided.now l.need l.j l.last × (length l.last ≡ length l.initial.last)
