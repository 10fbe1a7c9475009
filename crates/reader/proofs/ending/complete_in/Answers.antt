use native.Mathlib.Omega.{arith}
use Prim.Native.Nat.{ℕ}
use mathlib.Core.Path.{◌≡◌, ◌∙◌}
use Rattle.table_graph.proofs.Sums.{sums-length}
use Rattle.table_graph.proofs.Graph.{wide}
use Rattle.reader.proofs.Ends.{completed-atoms, completed-tables, told-as}
use Rattle.reader.proofs.Filling.{overfulls-by}
use Rattle.reader.proofs.ending.complete_in.Goals as goal

pub wire-requires : goal.wire-requires
wire-requires c = let r = c.requires.room in
    record { wide = wide c.requires.valid r.firsts r.seconds r.elided r.summed; sums_value = c.requires.sums_value.0 }

pub hydrogenate-overfull-requires : goal.hydrogenate-overfull-requires
hydrogenate-overfull-requires c = let a = c.args in
    (c.requires.valid.atoms_few, omega (arith, c.requires.room.summed, sums-length a.bonds.now a.m _ c.wire.ensures.sums_after))

pub first_wired-matchable-requires : goal.first_wired-matchable-requires
first_wired-matchable-requires c = let a = c.args in
    let w = c.wire.ensures in
    let h = c.hydrogenate-overfull.ensures in
    record { n_in_bounds = (c.requires.room.atoms, c.requires.sums_value.1); prepared = (a.bonds.now, completed-tables a.outsides.now a.atoms.now a.bonds.now a.n a.m _ c.requires.room.summed w.sums_after c.requires.valid h.hydrogens w.wired) }

pub returns-then-matchable : goal.returns-then-matchable
returns-then-matchable c = let a = c.args in
    let w = c.wire.ensures in
    let h = c.hydrogenate-overfull.ensures in
    let same = h.overfull ∙ overfulls-by a.outsides.now a.bonds.now a.n a.m _ a.atoms.now w.sums_after c.requires.room.summed in
    record {
      hydrogens = completed-atoms a.outsides.now a.atoms.now a.bonds.now a.n a.m _ c.requires.room.summed w.sums_after c.requires.valid h.hydrogens;
      overfull = λ k e. cc same;
      matched = told-as c.if-matchable.true (c.first_wired-matchable.ensures a.bonds.now (completed-tables a.outsides.now a.atoms.now a.bonds.now a.n a.m _ c.requires.room.summed w.sums_after c.requires.valid h.hydrogens w.wired));
    }

pub returns : goal.returns
returns c = let a = c.args in
    let w = c.wire.ensures in
    let h = c.hydrogenate-overfull.ensures in
    record {
      hydrogens = completed-atoms a.outsides.now a.atoms.now a.bonds.now a.n a.m _ c.requires.room.summed w.sums_after c.requires.valid h.hydrogens;
      overfull = λ k e. absurd (let z : ◌≡◌ {A = ℕ} 0 1 = cc in omega arith);
      matched = told-as c.if-matchable.false (c.first_wired-matchable.ensures a.bonds.now (completed-tables a.outsides.now a.atoms.now a.bonds.now a.n a.m _ c.requires.room.summed w.sums_after c.requires.valid h.hydrogens w.wired));
    }
