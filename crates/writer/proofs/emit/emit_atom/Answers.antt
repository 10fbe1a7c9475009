use Rattle.writer.proofs.Emission.{emitted}
use mathlib.Core.Path.{refl}
use lib.ListN.{get_or}
use native.Mathlib.Omega.{arith}
use Rattle.writer.proofs.emit.emit_atom.Goals as goal

pub overflow_cast-more : goal.overflow_cast-more
overflow_cast-more c = let a = c.args in omega (arith, c.shared_slice_known-6-1.given (get_or a.trail.up.now a.x.0 0))

pub overflow_cast-kind : goal.overflow_cast-kind
overflow_cast-kind c = omega (arith, c.shared_slice_known-7-1.given c.args.x.0)

pub overflow_cast-sums : goal.overflow_cast-sums
overflow_cast-sums c = let a = c.args in omega (arith, c.shared_slice_known-9-1.given (get_or a.trail.order.now a.x.0 0))

pub ring_ends-requires : goal.ring_ends-requires
ring_ends-requires c = let p = c.requires in
    let r = p.ready in
    record { k_in_bounds = (r.lower, r.higher); k_le_max_bonds = (r.bridges, p.slots_len_bound.0); k_in_bounds_2 = r.opened; marked = p.marked; x_in_bounds = p.slots_len_bound.1 }

pub returns : goal.returns
returns c = emitted _ _ _ _ _ _ _ _ _ _ _ _ _ _ _ _ _ _ _ _ refl c.lead-at.ensures c.atom-at.ensures c.ring_ends.ensures
