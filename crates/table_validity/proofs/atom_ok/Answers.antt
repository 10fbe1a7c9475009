use mathlib.Core.Path.{◌∙◌}
use mir.Val.{SFits}
use mir.Syntax.{w32}
use mir.Facts.{to_z-of_z}
use borrow.Author.Rules.{sfits_of}
use borrow.Author.Tests.{lt-ltb}
use Rattle.table.specs.Rows.{atom_at}
use Rattle.table.specs.Limits.{max_atoms, ELEMENT, SELECTED, ISOTOPE, HYDROGENS, CHARGE, EXTENSION, MARK}
use Rattle.table.specs.Cells.{atom_cell}
use Rattle.table.specs.Valid.{selected_ok, atom_ok, atom_row_ok}
use Rattle.table_validity.proofs.atom_ok.Goals as goal

pub atom_row_ok-requires : goal.atom_row_ok-requires
atom_row_ok-requires c = c.get_atom.ensures.atom_fits

pub returns-then-t-p : goal.returns-then-t-p
unfolding atom_at selected_ok atom_ok atom_row_ok
returns-then-t-p c = c.atom_row_ok.ensures ∙ simp c.get_atom.ensures.value (simp (lt-ltb c.args.a.0 max_atoms c.requires))

pub atom_row_ok-requires-2 : goal.atom_row_ok-requires-2
atom_row_ok-requires-2 c = let a = c.args in
    let t = a.t.now in
    let e1 : SFits w32 (atom_cell t a.a.0 ELEMENT) = sfits_of c.atom_row_ok-arg-1.given in
    let e2 : SFits w32 (atom_cell t a.a.0 SELECTED) = sfits_of c.atom_row_ok-arg-2-1.given in
    let e3 : SFits w32 (atom_cell t a.a.0 ISOTOPE) = sfits_of c.atom_row_ok-arg-3-1.given in
    let e4 : SFits w32 (atom_cell t a.a.0 HYDROGENS) = sfits_of c.atom_row_ok-arg-4-1.given in
    let e5 : SFits w32 (atom_cell t a.a.0 CHARGE) = sfits_of c.atom_row_ok-arg-5-1.given in
    let e6 : SFits w32 (atom_cell t a.a.0 EXTENSION) = sfits_of c.atom_row_ok-arg-6-1.given in
    let e7 : SFits w32 (atom_cell t a.a.0 MARK) = sfits_of c.atom_row_ok-arg-7-1.given in
    record { element = simp (to_z-of_z e1) e1; selected = simp (to_z-of_z e2) e2; isotope = simp (to_z-of_z e3) e3; hydrogens = simp (to_z-of_z e4) e4; charge = simp (to_z-of_z e5) e5; extension = simp (to_z-of_z e6) e6; mark = simp (to_z-of_z e7) e7 }

pub returns : goal.returns
unfolding selected_ok atom_ok atom_row_ok
returns c = let a = c.args in
    let t = a.t.now in
    let e1 : SFits w32 (atom_cell t a.a.0 ELEMENT) = sfits_of c.atom_row_ok-arg-1.given in
    let e2 : SFits w32 (atom_cell t a.a.0 SELECTED) = sfits_of c.atom_row_ok-arg-2-1.given in
    let e3 : SFits w32 (atom_cell t a.a.0 ISOTOPE) = sfits_of c.atom_row_ok-arg-3-1.given in
    let e4 : SFits w32 (atom_cell t a.a.0 HYDROGENS) = sfits_of c.atom_row_ok-arg-4-1.given in
    let e5 : SFits w32 (atom_cell t a.a.0 CHARGE) = sfits_of c.atom_row_ok-arg-5-1.given in
    let e6 : SFits w32 (atom_cell t a.a.0 EXTENSION) = sfits_of c.atom_row_ok-arg-6-1.given in
    let e7 : SFits w32 (atom_cell t a.a.0 MARK) = sfits_of c.atom_row_ok-arg-7-1.given in
    c.atom_row_ok-2.ensures ∙ simp (to_z-of_z e1, to_z-of_z e2, to_z-of_z e3, to_z-of_z e4, to_z-of_z e5, to_z-of_z e6, to_z-of_z e7)
