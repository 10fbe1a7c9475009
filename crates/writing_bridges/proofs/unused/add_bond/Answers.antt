use lib.ListN.{length-set}
use Rattle.writing_bridges.proofs.BondArrays.{left_out, taken_in, marked-add}
use Prim.Native.Nat.{◌-◌}
use native.Mathlib.Omega.{arith}
use Rattle.writing_bridges.proofs.unused.add_bond.Goals as goal

pub overflow_cast-up : goal.overflow_cast-up
overflow_cast-up c = omega (arith, c.shared_slice_known-2-1.given (c.args.q - 1))

pub returns-then-up-high : goal.returns-then-up-high
returns-then-up-high c = let a = c.args in
    let w = c.requires.p_nonzero in
    record { result_after = left_out _ _ _ _ a.p a.q a.kind a.used w.0 (omega (arith, w.0, w.1)) c.if-up-high.true; marked_2 = c.requires.marked }

pub bounds-marks-high : goal.bounds-marks-high
bounds-marks-high c = let w = c.requires.p_nonzero in
    simp length-set (omega (arith, c.requires.q_in_bounds.1, w.0, w.1))

pub bounds-marks-high-2 : goal.bounds-marks-high-2
bounds-marks-high-2 c = let w = c.requires.p_nonzero in
    simp length-set (omega (arith, c.requires.q_in_bounds.1, w.0, w.1))

pub returns : goal.returns
returns c = let a = c.args in
    let up = c.requires.q_in_bounds in
    let room = c.requires.bond_room in
    let w = c.requires.p_nonzero in
    record { result_after = taken_in _ _ _ _ a.p a.q a.kind a.used w.0 c.if-up-high.false; marked_2 = marked-add (a.p - 1) (a.q - 1) _ _ c.requires.marked (omega (arith, w.0, w.1, up.1)) (omega (arith, w.0, w.1, up.1)) (omega (arith, room.los)) (omega (arith, room.his)) c.mark.ensures c.mark-2.ensures }
