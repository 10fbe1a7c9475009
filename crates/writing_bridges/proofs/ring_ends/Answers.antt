use Rattle.writing_bridges.proofs.Laws.{ended, ends-none, single-below, ends-closing, ends-opening}
use Prim.Native.Nat.{◌-◌}
use native.Mathlib.Omega.{arith}
use mathlib.Core.Path.{refl}
use lib.ListN.{get_or}
use Rattle.writing_bridges.proofs.ring_ends.Goals as goal

pub returns-then-mark-eq0 : goal.returns-then-mark-eq0
returns-then-mark-eq0 c = ends-none _ _ _ _ _ c.requires.marked _ _ _ c.if-mark-eq0.true

pub bounds-his-i : goal.bounds-his-i
bounds-his-i c = omega (arith, single-below _ _ _ _ _ c.requires.marked c.if-mark-eq0.false c.if-mark-lt-MANY.true, c.requires.k_in_bounds.1)

pub overflow_cast-his : goal.overflow_cast-his
overflow_cast-his c = let a = c.args in omega (arith, c.shared_slice_known-then-mark-lt-MANY-1.given (get_or a.bonds.marks.now a.x.0 0 - 1))

pub close_bond-requires : goal.close_bond-requires
close_bond-requires c = (c.requires.k_le_max_bonds.1, omega (arith, single-below _ _ _ _ _ c.requires.marked c.if-mark-eq0.false c.if-mark-lt-MANY.true, c.requires.k_le_max_bonds.0))

pub returns-then-his-i : goal.returns-then-his-i
returns-then-his-i c = ends-closing _ _ _ _ _ c.requires.marked c.if-mark-eq0.false c.if-mark-lt-MANY.true _ _ _ _ _ c.close_bond.auto.slots c.if-his-i.true c.close_bond.ensures

pub bounds-kinds-i : goal.bounds-kinds-i
bounds-kinds-i c = omega (arith, single-below _ _ _ _ _ c.requires.marked c.if-mark-eq0.false c.if-mark-lt-MANY.true, c.requires.k_in_bounds_2)

pub overflow_cast-kinds : goal.overflow_cast-kinds
overflow_cast-kinds c = let a = c.args in omega (arith, c.shared_slice_known-then-mark-lt-MANY-2-1.given (get_or a.bonds.marks.now a.x.0 0 - 1))

pub open_bond-requires : goal.open_bond-requires
open_bond-requires c = (c.requires.k_le_max_bonds.1, omega (arith, single-below _ _ _ _ _ c.requires.marked c.if-mark-eq0.false c.if-mark-lt-MANY.true, c.requires.k_le_max_bonds.0))

pub returns-then-mark-lt-MANY : goal.returns-then-mark-lt-MANY
returns-then-mark-lt-MANY c = ends-opening _ _ _ _ _ c.requires.marked c.if-mark-eq0.false c.if-mark-lt-MANY.true _ _ _ _ _ _ _ c.open_bond.auto.slots c.if-his-i.false refl c.open_bond.ensures

pub returns : goal.returns
returns c = ended _ _ _ _ _ _ _ _ _ _ _ _ c.close_from-at.auto.slots c.close_from-at.ensures c.open_from.ensures
