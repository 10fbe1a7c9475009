use native.Mathlib.Omega.{arith}
use borrow.Author.Tests.{le-leb, lt-leb}
use Rattle.loops.proofs.Loops.{each_at}
use Rattle.table.specs.Valid.{valid}
use Rattle.table.proofs.Keys.{bond-ends, held, failed}
use Rattle.table_validity.proofs.valid.Goals as goal

pub returns-then-n-gt-MAX_ATOMS : goal.returns-then-n-gt-MAX_ATOMS
unfolding valid
returns-then-n-gt-MAX_ATOMS c = simp (lt-leb _ _ c.if-n-gt-MAX_ATOMS.true)

pub returns-then-m-gt-MAX_BONDS : goal.returns-then-m-gt-MAX_BONDS
unfolding valid
returns-then-m-gt-MAX_BONDS c = simp (le-leb _ _ c.if-n-gt-MAX_ATOMS.false, lt-leb _ _ c.if-m-gt-MAX_BONDS.true)

pub returns-then-not-atoms_ok : goal.returns-then-not-atoms_ok
unfolding valid
returns-then-not-atoms_ok c = simp (le-leb _ _ c.if-n-gt-MAX_ATOMS.false, le-leb _ _ c.if-m-gt-MAX_BONDS.false, failed c.atoms_ok.ensures c.if-not-atoms_ok.true-raw)

pub returns-then-sorted : goal.returns-then-sorted
unfolding valid
returns-then-sorted c = let s = c.sorted.ensures c.if-sorted.true in
    simp (le-leb _ _ c.if-n-gt-MAX_ATOMS.false, le-leb _ _ c.if-m-gt-MAX_BONDS.false, held c.atoms_ok.ensures c.if-not-atoms_ok.false-raw, s.0, s.1)

pub returns-then-not-bonds_ok : goal.returns-then-not-bonds_ok
unfolding valid
returns-then-not-bonds_ok c = simp (le-leb _ _ c.if-n-gt-MAX_ATOMS.false, le-leb _ _ c.if-m-gt-MAX_BONDS.false, held c.atoms_ok.ensures c.if-not-atoms_ok.false-raw, failed c.bonds_ok.ensures c.if-not-bonds_ok.true-raw)

pub distinct-requires : goal.distinct-requires
distinct-requires c = record { m_le_max_bonds = omega arith; by_index = λ b h. bond-ends _ _ b (each_at _ _ b (held c.bonds_ok.ensures c.if-not-bonds_ok.false-raw) h) }

pub returns : goal.returns
unfolding valid
returns c = simp (le-leb _ _ c.if-n-gt-MAX_ATOMS.false, le-leb _ _ c.if-m-gt-MAX_BONDS.false, held c.atoms_ok.ensures c.if-not-atoms_ok.false-raw, held c.bonds_ok.ensures c.if-not-bonds_ok.false-raw, c.distinct.ensures)
