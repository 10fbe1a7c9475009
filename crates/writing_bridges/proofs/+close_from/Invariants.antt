use Prim.Native.Nat.{◌-◌}
use Rattle.writing_bridges.proofs.+close_from.Given as goal

abbrev pub decreases-close_from : goal.decreases-close_from
decreases-close_from l = 65537 - l.from.0
