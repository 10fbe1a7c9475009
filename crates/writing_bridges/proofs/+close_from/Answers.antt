use mathlib.Core.Path.{◌∙◌}
use native.Mathlib.Omega.{arith}
use Rattle.writing_bridges.proofs.Laws.{close-end, close-next}
use Rattle.writing_bridges.proofs.+close_from.Goals as goal

pub nearest-bond-requires : goal.nearest-bond-requires
nearest-bond-requires t c = (c.requires.k_in_bounds.1, c.requires.k_in_bounds.0)

pub returns-then-k-i : goal.returns-then-k-i
returns-then-k-i t c = close-end _ _ _ _ _ _ c.nearest-bond.ensures _ _ c.if-k-i.true

pub close_bond-at-requires : goal.close_bond-at-requires
close_bond-at-requires t c = (c.requires.k_le_max_bonds.1, omega (arith, c.requires.k_le_max_bonds.0, c.if-k-i.false))

pub offset_bounds-los-i : goal.offset_bounds-los-i
offset_bounds-los-i t c = omega (arith, c.requires.k_le_max_bonds.0, c.if-k-i.false)

pub bounds-los-i : goal.bounds-los-i
bounds-los-i t c = omega (arith, c.requires.k_in_bounds.0, c.if-k-i.false)

pub overflow_cast-next : goal.overflow_cast-next
overflow_cast-next t c = omega (arith, c.shared_slice_known-1.given c.nearest-bond.result.0)

pub overflow_add-next : goal.overflow_add-next
overflow_add-next t c = omega (arith, c.shared_slice_known-1.given c.nearest-bond.result.0)

pub close_from-requires : goal.close_from-requires
close_from-requires t c = let i = c.nearest-bond in (omega (arith, (i.ensures.here c.if-k-i.false).1, c.shared_slice_known-1.given i.result.0, c.decreases), (c.requires.k_in_bounds, (c.requires.k_le_max_bonds.0, omega (arith, c.requires.k_le_max_bonds.1, c.close_bond-at.auto.slots))))

pub shape_of-slots : goal.shape_of-slots
shape_of-slots t c = c.close_from.auto.slots ∙ c.close_bond-at.auto.slots

pub shape_of-out : goal.shape_of-out
shape_of-out t c = c.close_from.auto.out ∙ c.close_bond-at.auto.out

pub returns : goal.returns
returns t c = close-next _ _ _ _ _ _ c.nearest-bond.ensures _ _ _ _ _ _ c.if-k-i.false c.close_bond-at.ensures c.close_from.ensures
