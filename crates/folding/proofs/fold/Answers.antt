use mathlib.Core.Path.{sym, ◌∙◌}
use Rattle.folding.proofs.Paths.{bare-room, fold-none}
use Rattle.folding.proofs.fold.Goals as goal

pub returns-then-no_hydrogen : goal.returns-then-no_hydrogen
returns-then-no_hydrogen c = fold-none c.args.atoms.now c.args.bonds.now c.args.n c.args.m c.requires c.bare_atoms.ensures c.bare_bonds.ensures (sym c.no_hydrogen.ensures ∙ c.if-no_hydrogen.true)

pub merge-requires : goal.merge-requires
merge-requires c = bare-room c.args.atoms.now c.args.bonds.now c.args.n c.args.m c.requires c.bare_atoms.ensures c.bare_bonds.ensures
