use Rattle.table.proofs.Keys.{never}
use Rattle.writing_atoms.proofs.Common.{plain_of}
use Rattle.writing_atoms.proofs.fields.is_plain.Goals as goal

pub returns-then-k-ne0 : goal.returns-then-k-ne0
returns-then-k-ne0 c = never

pub returns-then-atoms-atom_place : goal.returns-then-atoms-atom_place
returns-then-atoms-atom_place c = never

pub returns : goal.returns
returns c = plain_of _ _ _ c.atom_within.ensures c.atom_within-2.ensures c.atom_within-3.ensures c.if-k-ne0.false
