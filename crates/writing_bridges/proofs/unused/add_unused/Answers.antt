use Rattle.writing_bridges.proofs.BondArrays.{bag-less, first-number, second-number, numbers-below, numbers-differ, straight, swapped, strictly}
use Rattle.writing_bridges.specs.Unused.{bond_arrays, add_bond}
use Rattle.writing_walk.specs.Token.{Bond}
use mathlib.Core.Path.{refl, ap, ◌∙◌}
use lib.ListN.{get_or}
use native.Mathlib.Omega.{arith}
use Rattle.writing_bridges.proofs.unused.add_unused.Goals as goal

pub bounds-wiring-i : goal.bounds-wiring-i
bounds-wiring-i c = omega (arith, c.requires.b_lt_m.0, c.requires.m_in_bounds.0)

pub overflow_cast-e : goal.overflow_cast-e
overflow_cast-e c = let fit = c.requires.bonds_fit in
    let w = fit.ends c.args.b.0 c.requires.b_lt_m.0 in
    omega (arith, w.0, w.1, fit.atoms_few)

pub bounds-wiring-i-2 : goal.bounds-wiring-i-2
bounds-wiring-i-2 c = omega (arith, c.requires.b_lt_m.0, c.requires.m_in_bounds.1)

pub overflow_cast-f : goal.overflow_cast-f
overflow_cast-f c = let fit = c.requires.bonds_fit in
    let w = fit.ends c.args.b.0 c.requires.b_lt_m.0 in
    omega (arith, w.1, fit.atoms_few)

pub bounds-wiring-i-3 : goal.bounds-wiring-i-3
bounds-wiring-i-3 c = omega (arith, c.requires.b_lt_m.0, c.requires.m_in_bounds_2.0)

pub offset_bounds-number-e : goal.offset_bounds-number-e
offset_bounds-number-e c = let fit = c.requires.bonds_fit in
    let w = fit.ends c.args.b.0 c.requires.b_lt_m.0 in
    omega (arith, w.0, w.1, fit.atoms_few)

pub bounds-number-e : goal.bounds-number-e
bounds-number-e c = let fit = c.requires.bonds_fit in
    let num = c.requires.numbered in
    let w = fit.ends c.args.b.0 c.requires.b_lt_m.0 in
    omega (arith, w.0, w.1, fit.atoms_few, num.numbers)

pub overflow_cast-p : goal.overflow_cast-p
overflow_cast-p c = let a = c.args in
    omega (arith, c.shared_slice_known-1.given (get_or a.wiring.first.now a.b.0 0))

pub offset_bounds-number-f : goal.offset_bounds-number-f
offset_bounds-number-f c = let fit = c.requires.bonds_fit in
    let w = fit.ends c.args.b.0 c.requires.b_lt_m.0 in
    omega (arith, w.1, fit.atoms_few)

pub bounds-number-f : goal.bounds-number-f
bounds-number-f c = let fit = c.requires.bonds_fit in
    let num = c.requires.numbered in
    let w = fit.ends c.args.b.0 c.requires.b_lt_m.0 in
    omega (arith, w.1, fit.atoms_few, num.numbers)

pub overflow_cast-q : goal.overflow_cast-q
overflow_cast-q c = let a = c.args in
    omega (arith, c.shared_slice_known-2-1.given (get_or a.wiring.second.now a.b.0 0))

pub add_bond-requires : goal.add_bond-requires
add_bond-requires c = let a = c.args in
    let fit = c.requires.bonds_fit in
    let num = c.requires.numbered in
    let h = c.requires.b_lt_m.0 in
    let p = first-number fit num a.b.0 h _ refl in
    let q = second-number fit num a.b.0 h _ refl in
    let l = numbers-below fit num a.b.0 h in
    let f = fit.atoms_few in
    let u = c.requires.b_lt_m.1 in
    record { q_in_bounds = (omega (arith, num.ups), omega (arith, c.requires.m_in_bounds_2.1)); bond_room = bag-less c.requires.bond_room u; marked = c.requires.marked; p_nonzero = (omega arith, c.if-p-q.true); q_le_max_atoms = (omega arith, omega (arith, u, fit.bonds_few)) }

pub returns-then-p-q : goal.returns-then-p-q
returns-then-p-q c = let a = c.args in
    let fit = c.requires.bonds_fit in
    let num = c.requires.numbered in
    let h = c.requires.b_lt_m.0 in
    let p = first-number fit num a.b.0 h _ refl in
    let q = second-number fit num a.b.0 h _ refl in
    let l = numbers-below fit num a.b.0 h in
    let f = fit.atoms_few in
    let r = c.add_bond.ensures in
    record { result_after = r.result_after ∙ ap (λ (x : Bond). add_bond a.trail.up.now x (bond_arrays a.los.now a.his.now a.kinds.now a.used)) (straight fit num a.b.0 h _ _ _ p q refl c.if-p-q.true); marked_2 = r.marked_2 }

pub add_bond-requires-2 : goal.add_bond-requires-2
add_bond-requires-2 c = let a = c.args in
    let fit = c.requires.bonds_fit in
    let num = c.requires.numbered in
    let h = c.requires.b_lt_m.0 in
    let p = first-number fit num a.b.0 h _ refl in
    let q = second-number fit num a.b.0 h _ refl in
    let l = numbers-below fit num a.b.0 h in
    let f = fit.atoms_few in
    let u = c.requires.b_lt_m.1 in
    record { q_in_bounds = (omega (arith, num.ups), omega (arith, c.requires.m_in_bounds_2.1)); bond_room = bag-less c.requires.bond_room u; marked = c.requires.marked; p_nonzero = (omega arith, strictly _ _ (λ e. numbers-differ fit num a.b.0 h (omega arith)) c.if-p-q.false); q_le_max_atoms = (omega arith, omega (arith, u, fit.bonds_few)) }

pub returns : goal.returns
returns c = let a = c.args in
    let fit = c.requires.bonds_fit in
    let num = c.requires.numbered in
    let h = c.requires.b_lt_m.0 in
    let p = first-number fit num a.b.0 h _ refl in
    let q = second-number fit num a.b.0 h _ refl in
    let l = numbers-below fit num a.b.0 h in
    let f = fit.atoms_few in
    let r = c.add_bond-2.ensures in
    record { result_after = r.result_after ∙ ap (λ (x : Bond). add_bond a.trail.up.now x (bond_arrays a.los.now a.his.now a.kinds.now a.used)) (swapped fit num a.b.0 h _ _ _ p q c.turned-back.ensures c.if-p-q.false); marked_2 = r.marked_2 }
