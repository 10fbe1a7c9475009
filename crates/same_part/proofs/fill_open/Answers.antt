use mathlib.Core.Path.{refl, sym}
use native.Mathlib.Omega.{arith}
use lib.ListN.{replicate}
use Rattle.table_graph.proofs.Graph.{built-shape, length-first, length-second, length-elided, length-flags}
use Rattle.same_part.proofs.Opening.{opens}
use Rattle.same_part.proofs.fill_open.Goals as goal

pub build-requires : goal.build-requires
build-requires c = record { valid = c.requires.valid; room = record { atoms = omega (arith, c.requires.n_le_max_same); firsts = omega (arith, c.requires.valid.bonds_few); seconds = omega (arith, c.requires.valid.bonds_few); elided = omega (arith, c.requires.valid.bonds_few); summed = omega (arith, c.requires.n_le_max_same) }; sums_value = refl }

pub mark_open-requires : goal.mark_open-requires
mark_open-requires c = built-shape c.build.ensures c.requires.valid (replicate 1100 0) (omega (arith, c.requires.valid.bonds_few))

pub returns : goal.returns
returns c = opens c.build.ensures (replicate 1100 0) c.mark_open.ensures
