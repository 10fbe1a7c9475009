use mathlib.Core.Path.{refl, ◌∙◌}
use native.Mathlib.Omega.{arith}
use Rattle.writing_bridges.proofs.Laws.{open-end, open_full, open_next}
use Rattle.writing_bridges.proofs.+open_from.Goals as goal

pub nearest-bond-requires : goal.nearest-bond-requires
nearest-bond-requires t c = (c.requires.k_in_bounds.0, c.requires.k_in_bounds.1)

pub returns-then-k-i : goal.returns-then-k-i
returns-then-k-i t c = open-end _ _ _ _ _ _ _ c.nearest-bond.ensures _ _ c.if-k-i.true

pub bounds-kinds-i : goal.bounds-kinds-i
bounds-kinds-i t c = omega (arith, c.if-k-i.false, c.requires.k_in_bounds_2)

pub overflow_cast-kinds : goal.overflow_cast-kinds
overflow_cast-kinds t c = omega (arith, c.shared_slice_known-1.given c.nearest-bond.result.0)

pub open_bond-requires : goal.open_bond-requires
open_bond-requires t c = (c.requires.k_le_max_bonds.1, omega (arith, c.if-k-i.false, c.requires.k_le_max_bonds.0))

pub offset_bounds-his-i : goal.offset_bounds-his-i
offset_bounds-his-i t c = omega (arith, c.requires.k_le_max_bonds.0, c.if-k-i.false)

pub bounds-his-i : goal.bounds-his-i
bounds-his-i t c = omega (arith, c.requires.k_in_bounds.1, c.if-k-i.false)

pub overflow_cast-next : goal.overflow_cast-next
overflow_cast-next t c = omega (arith, c.shared_slice_known-2-1.given c.nearest-bond.result.0)

pub overflow_add-next : goal.overflow_add-next
overflow_add-next t c = omega (arith, c.shared_slice_known-2-1.given c.nearest-bond.result.0)

pub open_from-requires : goal.open_from-requires
open_from-requires t c = let i = c.nearest-bond in (omega (arith, (i.ensures.here c.if-k-i.false).1, c.shared_slice_known-2-1.given i.result.0, c.decreases), (c.requires.k_in_bounds, ((c.requires.k_le_max_bonds.0, omega (arith, c.requires.k_le_max_bonds.1, c.open_bond.auto.slots)), c.requires.k_in_bounds_2)))

pub shape_of-slots : goal.shape_of-slots
shape_of-slots t c = c.open_from.auto.slots ∙ c.open_bond.auto.slots

pub shape_of-out : goal.shape_of-out
shape_of-out t c = c.open_from.auto.out ∙ c.open_bond.auto.out

pub returns : goal.returns
returns t c = open_next _ _ _ _ _ _ _ c.nearest-bond.ensures _ _ _ _ _ _ _ _ _ c.if-k-i.false refl c.open_bond.auto.slots refl c.in_ok-at.ensures c.open_from.ensures

pub returns-in_err-at : goal.returns-in_err-at
returns-in_err-at t c = rw c.from_residual.ensures (open_full _ _ _ _ _ _ _ c.nearest-bond.ensures _ _ _ _ _ _ c.if-k-i.false refl c.in_err-at.ensures)
