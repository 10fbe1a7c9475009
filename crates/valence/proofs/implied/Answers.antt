use Rattle.valence.proofs.Laws.{not-above, implied-first, implied-full}
use Rattle.valence.proofs.implied.Goals as goal

pub up_to_first-count-requires : goal.up_to_first-count-requires
up_to_first-count-requires c = not-above _ _ c.if-first-sum.true

pub returns-then-first-sum : goal.returns-then-first-sum
returns-then-first-sum c = implied-first c.args.e c.args.selected c.args.sum c.first_target-first.ensures c.if-first-sum.true c.up_to_first-count.ensures

pub returns : goal.returns
returns c = implied-full c.args.e c.args.selected c.args.sum c.reach-reached.ensures c.first_target-first.ensures c.if-first-sum.false c.room-count.ensures
