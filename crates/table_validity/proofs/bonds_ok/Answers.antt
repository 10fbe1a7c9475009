use Rattle.std.proofs.Common.{rules}
use Rattle.table.specs.Valid.{bond_ok}
use Rattle.table.proofs.Ranges.{all_in_range}
use Rattle.table_validity.proofs.bonds_ok.Goals as goal

pub returns : goal.returns
returns c = all_in_range (bond_ok c.args.t.now c.args.n) c.args.m c.all.ensures.ran (λ x b q k. search rules)
