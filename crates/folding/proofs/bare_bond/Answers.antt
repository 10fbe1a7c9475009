use mathlib.Core.Path.{sym, ap, ◌∙◌}
use Rattle.kinds.specs.Kind.{is_mark}
use Rattle.folding.proofs.Paths.{bare-no, bare-yes}
use Rattle.folding.proofs.bare_bond.Goals as goal

pub returns-then-not-is_mark : goal.returns-then-not-is_mark
returns-then-not-is_mark c = bare-no c.args.bonds.now c.args.b.0 (sym (c.is_mark.ensures ∙ ap is_mark c.bond_number-k.ensures) ∙ c.if-not-is_mark.true)

pub returns : goal.returns
returns c = bare-yes c.args.bonds.now c.args.b.0 (sym (c.is_mark.ensures ∙ ap is_mark c.bond_number-k.ensures) ∙ c.if-not-is_mark.false) c.put_bond_cell.ensures
