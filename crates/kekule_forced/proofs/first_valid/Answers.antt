use mathlib.Core.Path.{refl, sym}
use native.Mathlib.Omega.{arith}
use Rattle.table_graph.proofs.Graph.{built-shape, length-first, length-second, length-elided, length-flags}
use Rattle.kekule_forced.proofs.Calls.{built-roomy, first-listed}
use Rattle.kekule_forced.proofs.first_valid.Goals as goal

pub build-requires : goal.build-requires
build-requires c = record { valid = c.requires.valid; room = record { atoms = omega (arith, c.requires.valid.atoms_few); firsts = omega (arith, c.requires.valid.bonds_few); seconds = omega (arith, c.requires.valid.bonds_few); elided = omega (arith, c.requires.valid.bonds_few); summed = omega (arith, c.requires.valid.atoms_few) }; sums_value = refl }

pub slice_bounds-first_forced-end : goal.slice_bounds-first_forced-end
slice_bounds-first_forced-end c = sym (length-first c.build.ensures)

pub slice_bounds-first_forced-end-2 : goal.slice_bounds-first_forced-end-2
slice_bounds-first_forced-end-2 c = sym (length-second c.build.ensures)

pub slice_bounds-first_forced-end-3 : goal.slice_bounds-first_forced-end-3
slice_bounds-first_forced-end-3 c = sym (length-elided c.build.ensures)

pub slice_bounds-first_forced-end-4 : goal.slice_bounds-first_forced-end-4
slice_bounds-first_forced-end-4 c = sym (length-flags c.build.ensures)

pub first_forced-requires : goal.first_forced-requires
first_forced-requires c = let b = c.build.ensures in
    record { shape = built-shape b c.requires.valid c.args.row.now c.requires.m_in_bounds.0; roomy = (built-roomy b c.requires.valid c.requires.m_in_bounds.1, omega (arith, length-first b, c.requires.valid.bonds_few, c.requires.m_in_bounds.1)) }

pub returns : goal.returns
returns c = first-listed c.build.ensures c.args.row.now c.args.pairs.now c.first_forced.ensures
