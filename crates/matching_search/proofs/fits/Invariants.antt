use Rattle.matching_search.proofs.Fitting.{Fitting}
use Rattle.matching_search.proofs.fits.Given as goal

abbrev pub invariant-loop-i : goal.invariant-loop-i
invariant-loop-i l = Fitting l.links.ends.first.now l.links.ends.second.now l.links.elided.now l.initial.need l.row l.i l.need
