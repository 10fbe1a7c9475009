use native.Mathlib.Omega.{arith}
use Rattle.writing_bridges.proofs.Laws.{inserted, inserted-full}
use Rattle.writing_bridges.proofs.open_bond.Goals as goal

pub returns-in_err-r : goal.returns-in_err-r
returns-in_err-r c = rw c.from_residual.ensures (inserted-full _ _ _ _ _ _ c.in_err-r.ensures (omega arith))

pub returns : goal.returns
returns c = inserted _ _ _ _ _ _ c.in_ok-r.r c.in_ok-r.ensures.0 c.in_ok-r.ensures.1 c.write_slot.ensures.slots_after c.write_slot.ensures.wrote
