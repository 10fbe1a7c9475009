use Prim.Native.Nat.{◌-◌}
use Rattle.reader_bytes.specs.Step.{lent}
use Rattle.reader_pieces.proofs.Running.{Running}
use Rattle.reader_pieces.proofs.run.read_piece.Given as goal

abbrev pub invariant-loop-i : goal.invariant-loop-i
invariant-loop-i l = Running l.piece l.from l.initial.h (lent l.initial.hubs l.initial.openers l.initial.symbols l.initial.offsets l.initial.outsides l.initial.keys l.initial.atoms l.initial.bonds) l.i l.h (lent l.hubs l.openers l.symbols l.offsets l.outsides l.keys l.atoms l.bonds)
