use native.Mathlib.Omega.{arith}
use Rattle.writing_bridges.proofs.Laws.{released, released-lost}
use Rattle.writing_bridges.proofs.close_bond.Goals as goal

pub returns-in-Some : goal.returns-in-Some
returns-in-Some c = released _ _ _ _ _ c.in-Some.r c.in-Some.ensures.0 c.write_slot.ensures.slots_after c.write_slot.ensures.wrote

pub returns-in-None : goal.returns-in-None
returns-in-None c = released-lost _ _ _ _ c.in-None.ensures (omega arith)
