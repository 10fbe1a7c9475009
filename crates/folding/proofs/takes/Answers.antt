use mathlib.Core.Path.{sym, ◌∙◌}
use Rattle.folding.proofs.Paths.{takes-no, takes-yes}
use Rattle.folding.proofs.takes.Goals as goal

pub returns-then-atom_within : goal.returns-then-atom_within
returns-then-atom_within c = takes-no c.args.atoms.now c.args.p.0 (sym c.atom_within.ensures ∙ c.if-atom_within.true)

pub returns : goal.returns
returns c = takes-yes c.args.atoms.now c.args.p.0 (sym c.atom_within.ensures ∙ c.if-atom_within.false) c.atom_number.ensures
