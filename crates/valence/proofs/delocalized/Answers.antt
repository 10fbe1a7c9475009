use Rattle.valence.proofs.Charge.{not_selected, both-fits, one-more-fits, by-target}
use Rattle.valence.proofs.delocalized.Goals as goal

pub returns-then-selected-ne1 : goal.returns-then-selected-ne1
returns-then-selected-ne1 c = not_selected c.args.e c.args.selected c.args.charge c.args.sum c.args.hydrogens c.if-selected-ne1.true

pub overflow_add-result : goal.overflow_add-result
overflow_add-result c = both-fits c.args.sum c.args.hydrogens c.ranges.sum c.ranges.hydrogens

pub overflow_add-result-2 : goal.overflow_add-result-2
overflow_add-result-2 c = one-more-fits c.args.sum c.args.hydrogens c.ranges.sum c.ranges.hydrogens

pub returns : goal.returns
returns c = by-target c.args.sum c.args.hydrogens c.ranges.sum c.ranges.hydrogens c.args.e c.args.selected c.ranges.charge c.if-selected-ne1.false (c.shifted_target.ensures.value, c.shifted_target.ensures.sfits)
