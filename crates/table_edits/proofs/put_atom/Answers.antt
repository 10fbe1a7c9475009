use borrow.Author.Tests.{le-ltb, lt-ltb}
use Rattle.table.specs.Rows.{put_atom}
use Rattle.table_edits.proofs.put_atom.Goals as goal

pub returns-then-a-ge-MAX_ATOMS : goal.returns-then-a-ge-MAX_ATOMS
unfolding put_atom
returns-then-a-ge-MAX_ATOMS c = simp (le-ltb _ _ c.if-a-ge-MAX_ATOMS.true)

pub returns-then-t-a : goal.returns-then-t-a
unfolding put_atom
returns-then-t-a c = simp (lt-ltb _ _ c.if-a-ge-MAX_ATOMS.false) c.put_atom_beyond.ensures

pub returns : goal.returns
unfolding put_atom
returns c = simp (lt-ltb _ _ c.if-a-ge-MAX_ATOMS.false) c.lay_atom.ensures
