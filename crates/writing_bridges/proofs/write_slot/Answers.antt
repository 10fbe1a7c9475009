use Rattle.buffer.proofs.Laws.{also}
use mathlib.Core.Path.{refl}
use Rattle.writing_bridges.proofs.write_slot.Goals as goal

pub returns : goal.returns
returns c = record { wrote = also c.bond_symbol-at.ensures c.bridge.ensures; slots_after = refl }
