use Rattle.std.proofs.Common.{rules}
use Rattle.table.specs.Valid.{atom_ok}
use Rattle.table.proofs.Ranges.{all_in_range}
use Rattle.table_validity.proofs.atoms_ok.Goals as goal

pub returns : goal.returns
returns c = all_in_range (atom_ok c.args.t.now) c.args.n c.all.ensures.ran (λ x b q k. search rules)
