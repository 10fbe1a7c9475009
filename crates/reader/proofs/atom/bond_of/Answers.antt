use Rattle.reader.proofs.Atoms.{bond-row}
use Rattle.reader.proofs.atom.bond_of.Goals as goal

pub returns : goal.returns
returns c = bond-row _ _ _ c.requires.0 c.requires.1 c.ranges.k.fits
