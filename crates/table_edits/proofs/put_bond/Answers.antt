use borrow.Author.Tests.{le-ltb, lt-ltb}
use Rattle.table.specs.Rows.{put_bond}
use Rattle.table_edits.proofs.put_bond.Goals as goal

pub returns-then-b-ge-MAX_BONDS : goal.returns-then-b-ge-MAX_BONDS
unfolding put_bond
returns-then-b-ge-MAX_BONDS c = simp (le-ltb _ _ c.if-b-ge-MAX_BONDS.true)

pub returns-then-t-b : goal.returns-then-t-b
unfolding put_bond
returns-then-t-b c = simp (lt-ltb _ _ c.if-b-ge-MAX_BONDS.false) c.put_bond_beyond.ensures

pub returns : goal.returns
unfolding put_bond
returns c = simp (lt-ltb _ _ c.if-b-ge-MAX_BONDS.false) c.lay_bond.ensures
