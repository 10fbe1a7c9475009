use mathlib.Core.Path.{◌∙◌}
use mir.Val.{SFits}
use mir.Syntax.{w32}
use mir.Facts.{to_z-of_z}
use borrow.Author.Rules.{sfits_of}
use Rattle.table.specs.Limits.{FIRST, SECOND, KIND}
use Rattle.table.specs.Cells.{bond_cell}
use Rattle.table.specs.Valid.{bond_ok, bond_row_ok}
use Rattle.table_validity.proofs.valid_key.Goals as goal

pub returns-then-t-p : goal.returns-then-t-p
returns-then-t-p c = λ k h. absurd (cc)

pub row_key-requires : goal.row_key-requires
row_key-requires c = let a = c.args in
    let t = a.t.now in
    let e1 : SFits w32 (bond_cell t a.b.0 FIRST) = sfits_of c.first-1.given in
    let e2 : SFits w32 (bond_cell t a.b.0 SECOND) = sfits_of c.second-1.given in
    let e3 : SFits w32 (bond_cell t a.b.0 KIND) = sfits_of c.kind-1.given in
    record { fits = record { first = simp (to_z-of_z e1) e1; second = simp (to_z-of_z e2) e2; kind = simp (to_z-of_z e3) e3 }; n_le_max_atoms = c.requires.0 }

pub returns : goal.returns
unfolding bond_ok bond_row_ok
returns c = let a = c.args in
    let t = a.t.now in
    let e1 : SFits w32 (bond_cell t a.b.0 FIRST) = sfits_of c.first-1.given in
    let e2 : SFits w32 (bond_cell t a.b.0 SECOND) = sfits_of c.second-1.given in
    let e3 : SFits w32 (bond_cell t a.b.0 KIND) = sfits_of c.kind-1.given in
    λ k h.
    let r = c.row_key.ensures k h in
    (simp (to_z-of_z e1, to_z-of_z e2, to_z-of_z e3) at r.0, r.1 ∙ simp (to_z-of_z e1, to_z-of_z e2))
