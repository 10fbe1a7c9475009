use Rattle.reader.proofs.Ends.{blank-ready, into-of}
use mathlib.Core.Path.{◌∙◌}
use native.Mathlib.Omega.{arith}
use Rattle.reader.proofs.read_zeroed.Goals as goal

pub read_row-requires : goal.read_row-requires
read_row-requires c = record { ready = blank-ready _ c.requires; max_bonds_in_bounds = omega arith }

pub returns : goal.returns
returns c = λ a b ex ey h. c.read_row.ensures.bonds_after a b ex ey ∙ into-of _ a b h
