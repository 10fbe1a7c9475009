use Rattle.buffer.proofs.Laws.{as_is}
use Rattle.writing_atoms.proofs.Laws.{hydrogens-size}
use Rattle.writing_atoms.proofs.fields.hydrogens.Goals as goal

pub returns : goal.returns
returns c = as_is (hydrogens-size _) c.sized.ensures
