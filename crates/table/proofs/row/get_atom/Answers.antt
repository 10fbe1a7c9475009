use mir.Facts.{to_z-of_z, sfits_lit}
use borrow.Author.Tests.{le-ltb, lt-ltb}
use Rattle.table.specs.Rows.{atom_at}
use Rattle.table.proofs.row.get_atom.Goals as goal

pub returns-then-a-ge-MAX_ATOMS : goal.returns-then-a-ge-MAX_ATOMS
unfolding atom_at
returns-then-a-ge-MAX_ATOMS c = let z = sfits_lit tt in
    record { value = simp (le-ltb _ _ c.if-a-ge-MAX_ATOMS.true); atom_fits = record { element = z; selected = z; isotope = z; hydrogens = z; charge = z; extension = z; mark = z } }

pub returns : goal.returns
unfolding atom_at
returns c = let c6 = c in
    let c5 = c6 in
    let c4 = c5 in
    let c3 = c4 in
    let c2 = c3 in
    let c1 = c2 in
    let e1 = c1.atom_cell.ensures in
    let e2 = c2.atom_cell-2.ensures in
    let e3 = c3.atom_cell-3.ensures in
    let e4 = c4.atom_cell-4.ensures in
    let e5 = c5.atom_cell-5.ensures in
    let e6 = c6.atom_cell-6.ensures in
    let e7 = c.atom_cell-7.ensures in record {
      value = simp (lt-ltb _ _ c1.if-a-ge-MAX_ATOMS.false, to_z-of_z e1.sfits, to_z-of_z e2.sfits, to_z-of_z e3.sfits, to_z-of_z e4.sfits, to_z-of_z e5.sfits, to_z-of_z e6.sfits, to_z-of_z e7.sfits) (simp (e1.value, e2.value, e3.value, e4.value, e5.value, e6.value, e7.value));
      atom_fits = record {
        element = simp (to_z-of_z e1.sfits) e1.sfits;
        selected = simp (to_z-of_z e2.sfits) e2.sfits;
        isotope = simp (to_z-of_z e3.sfits) e3.sfits;
        hydrogens = simp (to_z-of_z e4.sfits) e4.sfits;
        charge = simp (to_z-of_z e5.sfits) e5.sfits;
        extension = simp (to_z-of_z e6.sfits) e6.sfits;
        mark = simp (to_z-of_z e7.sfits) e7.sfits;
      };
    }
