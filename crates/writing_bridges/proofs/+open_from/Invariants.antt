use Prim.Native.Nat.{◌-◌}
use Rattle.writing_bridges.proofs.+open_from.Given as goal

abbrev pub decreases-open_from : goal.decreases-open_from
decreases-open_from l = 65537 - l.from.0
