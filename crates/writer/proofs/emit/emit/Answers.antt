use Rattle.writer.proofs.Emission.{onward-start, onward-stop, onward-step, onward-end}
use mathlib.Core.Path.{refl, sym, ◌∙◌}
use native.Mathlib.Omega.{arith}
use Rattle.writer.proofs.emit.emit.Goals as goal

pub loop-x-init : goal.loop-x-init
loop-x-init c = (onward-start _ _ _ _ _ _ _ _, omega arith, refl, refl)

pub slice_bounds-emit_atom-end : goal.slice_bounds-emit_atom-end
slice_bounds-emit_atom-end c = sym c.loop-x.invariant.2

pub emit_atom-requires : goal.emit_atom-requires
emit_atom-requires c = let p = c.requires in
    let t = c.loop-x-test.true in
    record { ready = p.by_index _ t; marked = p.marked; slots_len_bound = (omega (arith, c.loop-x.invariant.2), omega (arith, t, p.n_in_bounds)) }

pub returns-in_err-at : goal.returns-in_err-at
returns-in_err-at c = rw c.from_residual.ensures (onward-stop _ _ _ _ _ _ _ _ _ _ _ _ _ _ _ _ _ _ _ _ c.loop-x.invariant.0 c.loop-x-test.true c.in_err-at.ensures refl)

pub loop-x-preserved : goal.loop-x-preserved
loop-x-preserved c = let i = c.loop-x.invariant in
    let t = c.loop-x-test.true in
    let e = c.emit_atom in
    (onward-step _ _ _ _ _ _ _ _ _ _ _ _ _ _ _ _ _ _ _ _ i.0 t c.in_ok-at.ensures refl e.auto.slots, omega (arith, t), e.auto.slots ∙ i.2, e.auto.out ∙ i.3)

pub shape_of-out : goal.shape_of-out
shape_of-out c = c.loop-x.invariant.3

pub returns : goal.returns
returns c = onward-end _ _ _ _ _ _ _ _ _ _ _ c.loop-x.invariant.0 c.loop-x-test.false
