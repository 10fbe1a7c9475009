use Rattle.std.proofs.Common.{rules}
use Rattle.table_validity.specs.Degrees.{plain}
use Rattle.table.proofs.Ranges.{all_in_range}
use Rattle.table_validity.proofs.late.all_plain.Goals as goal

pub returns : goal.returns
returns c = all_in_range (plain c.args.atoms.now) c.args.n c.all.ensures.ran (λ x b q k. search rules)
