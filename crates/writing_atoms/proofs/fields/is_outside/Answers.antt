use Rattle.writing.specs.Spell.{without_brackets}
use Rattle.writing_atoms.proofs.Laws.{neutral-is}
use Rattle.writing_atoms.proofs.fields.is_outside.Goals as goal

pub returns : goal.returns
unfolding without_brackets
returns c = simp (c.atom_number-4.ensures, c.is_bare.ensures, c.atom_number-3.ensures, c.atom_within.ensures, neutral-is, c.atom_number-2.ensures, c.implied-implied.ensures, c.atom_number.ensures, c.atom_number-e.ensures)
