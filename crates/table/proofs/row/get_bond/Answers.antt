use mir.Val.{SFits}
use mir.Syntax.{w32}
use mir.Facts.{to_z-of_z, sfits_lit}
use borrow.Author.Rules.{sfits_of}
use borrow.Author.Tests.{le-ltb, lt-ltb}
use Rattle.table.specs.Limits.{FIRST, SECOND, KIND}
use Rattle.table.specs.Cells.{bond_cell}
use Rattle.table.specs.Rows.{bond_at}
use Rattle.table.proofs.row.get_bond.Goals as goal

pub returns-then-b-ge-MAX_BONDS : goal.returns-then-b-ge-MAX_BONDS
unfolding bond_at
returns-then-b-ge-MAX_BONDS c = record { value = simp (le-ltb _ _ c.if-b-ge-MAX_BONDS.true); bond_fits = record { first = sfits_lit tt; second = sfits_lit tt; kind = sfits_lit tt } }

pub returns-then-t-p : goal.returns-then-t-p
unfolding bond_at
returns-then-t-p c = record { value = simp (lt-ltb _ _ c.if-b-ge-MAX_BONDS.false) c.get_bond_beyond.ensures.value; bond_fits = c.get_bond_beyond.ensures.bond_fits }

pub returns : goal.returns
unfolding bond_at
returns c = let c2 = c in
    let c1 = c2 in
    let c0 = c1 in
    let a = c0.args in
    let t = a.t.now in
    let e1 : SFits w32 (bond_cell t a.b.0 FIRST) = sfits_of c1.result-1.given in
    let e2 : SFits w32 (bond_cell t a.b.0 SECOND) = sfits_of c2.result-2-1.given in
    let e3 : SFits w32 (bond_cell t a.b.0 KIND) = sfits_of c.result-3-1.given in record { value = simp (lt-ltb _ _ c0.if-b-ge-MAX_BONDS.false, to_z-of_z e1, to_z-of_z e2, to_z-of_z e3); bond_fits = record { first = simp (to_z-of_z e1) e1; second = simp (to_z-of_z e2) e2; kind = simp (to_z-of_z e3) e3 } }
