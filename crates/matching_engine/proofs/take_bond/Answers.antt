use Rattle.matching_search.proofs.Flags.{not-true, not-false}
use Rattle.matching_engine.proofs.Taking.{left_out, taken}
use Rattle.matching_engine.proofs.take_bond.Goals as goal

pub returns-then-not-choosable : goal.returns-then-not-choosable
returns-then-not-choosable c = left_out c.choosable.ensures (not-true c.choosable.result c.if-not-choosable.true-raw)

pub returns : goal.returns
returns c = taken c.choosable.ensures (not-false c.choosable.result c.if-not-choosable.false-raw) c.mark.ensures
