use mathlib.Core.Path.{sym, ◌∙◌}
use Rattle.table_validity.proofs.Degrees.{plain_code}
use Rattle.table_validity.proofs.late.check_counts.Goals as goal

pub returns-then-all_plain : goal.returns-then-all_plain
returns-then-all_plain c = let a = c.args in sym (plain_code a.tables.atoms.now a.tables.bonds.now a.tables.n a.tables.m (sym c.all_plain.ensures ∙ c.if-all_plain.true))
