use Rattle.valence.proofs.Charge.{first_fits, lessened-fits, shifted-carbon, raised-fits, shifted-other}
use Rattle.valence.proofs.shifted_target.Goals as goal

pub overflow_cast-first : goal.overflow_cast-first
overflow_cast-first c = first_fits c.args.e c.ranges.charge c.first_target-first.ensures

pub overflow_sub-result : goal.overflow_sub-result
overflow_sub-result c = lessened-fits c.args.e c.ranges.charge c.first_target-first.ensures c.unsigned_abs.ensures.value

pub returns-then-e-eq6-clause-value : goal.returns-then-e-eq6-clause-value
returns-then-e-eq6-clause-value c = shifted-carbon c.args.e c.ranges.charge c.first_target-first.ensures c.unsigned_abs.ensures.value c.if-e-eq6.true

pub overflow_add-result : goal.overflow_add-result
overflow_add-result c = raised-fits c.args.e c.ranges.charge c.first_target-first.ensures

pub returns-clause-value : goal.returns-clause-value
returns-clause-value c = shifted-other c.args.e c.ranges.charge c.first_target-first.ensures c.if-e-eq6.false
