use mathlib.Core.Path.{refl, sym}
use native.Mathlib.Omega.{arith}
use Rattle.table_graph.proofs.Graph.{built-shape, length-first, length-second, length-elided, length-flags}
use Rattle.same_decide.proofs.Skipping.{skip-good, skip-built}
use Rattle.same_decide.proofs.skip.Goals as goal

pub build-requires : goal.build-requires
build-requires c = record { valid = c.requires.valid; room = record { atoms = omega (arith, c.requires.n_le_max_same); firsts = omega (arith, c.requires.valid.bonds_few); seconds = omega (arith, c.requires.valid.bonds_few); elided = omega (arith, c.requires.valid.bonds_few); summed = omega (arith, c.requires.n_le_max_same) }; sums_value = refl }

pub skip-requires : goal.skip-requires
skip-requires c = record { shape = built-shape c.build.ensures c.requires.valid c.args.row.now c.requires.n_le_max_same.1; to_in_bounds = (omega (arith, length-first c.build.ensures, c.requires.n_le_max_same.2), skip-good c.build.ensures c.args.row.now c.requires.row_value) }

pub returns : goal.returns
returns c = skip-built c.build.ensures c.args.row.now c.args.to c.skip.ensures.skipped
