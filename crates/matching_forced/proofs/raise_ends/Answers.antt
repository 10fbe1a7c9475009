use native.Mathlib.Omega.{arith}
use Rattle.matching_forced.proofs.Tallies.{raised-same, raised-other, raised-room}
use Rattle.matching_forced.proofs.raise_ends.Goals as goal

pub raise-requires : goal.raise-requires
raise-requires c = (omega (arith, c.end_of-first.ensures, c.requires.ends.end1), c.requires.by_index c.end_of-first.result.0)

pub raise-requires-then-a-b : goal.raise-requires-then-a-b
raise-requires-then-a-b c = raised-room c.args.counts.now c.raise.ensures c.raise.auto.counts c.requires.by_index c.end_of-second.ensures c.requires.ends.end2 c.if-a-b.true

pub returns-then-a-b : goal.returns-then-a-b
returns-then-a-b c = raised-other c.args.counts.now c.end_of-first.ensures c.end_of-second.ensures c.if-a-b.true c.raise.ensures c.raise-then-a-b.ensures

pub returns-else-a-b : goal.returns-else-a-b
returns-else-a-b c = raised-same c.args.counts.now c.end_of-first.ensures c.end_of-second.ensures c.if-a-b.false c.raise.ensures
