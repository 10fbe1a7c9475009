use Rattle.folding.proofs.Paths.{move_row}
use Rattle.folding.proofs.move_atom.Goals as goal

pub returns : goal.returns
returns c = move_row c.args.atoms.now c.args.k c.args.a.0 c.if-to-ge-MAX_ATOMS.false c.requires c.get_atom-row.ensures.value c.put_atom.ensures
