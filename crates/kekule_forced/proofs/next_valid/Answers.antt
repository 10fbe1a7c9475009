use mathlib.Core.Path.{refl, sym}
use native.Mathlib.Omega.{arith}
use Rattle.table_graph.proofs.Graph.{built-shape, length-first, length-second, length-elided, length-flags}
use Rattle.matching.specs.declared.Call.TheVariants.{Next}
use Rattle.kekule.proofs.Kekule.{next_built}
use Rattle.kekule_forced.proofs.Calls.{built-roomy}
use Rattle.kekule_forced.proofs.next_valid.Goals as goal

pub build-requires : goal.build-requires
build-requires c = record { valid = c.requires.valid; room = record { atoms = omega (arith, c.requires.valid.atoms_few); firsts = omega (arith, c.requires.valid.bonds_few); seconds = omega (arith, c.requires.valid.bonds_few); elided = omega (arith, c.requires.valid.bonds_few); summed = omega (arith, c.requires.valid.atoms_few) }; sums_value = refl }

pub slice_bounds-next_forced-end : goal.slice_bounds-next_forced-end
slice_bounds-next_forced-end c = sym (length-first c.build.ensures)

pub slice_bounds-next_forced-end-2 : goal.slice_bounds-next_forced-end-2
slice_bounds-next_forced-end-2 c = sym (length-second c.build.ensures)

pub slice_bounds-next_forced-end-3 : goal.slice_bounds-next_forced-end-3
slice_bounds-next_forced-end-3 c = sym (length-elided c.build.ensures)

pub slice_bounds-next_forced-end-4 : goal.slice_bounds-next_forced-end-4
slice_bounds-next_forced-end-4 c = sym (length-flags c.build.ensures)

pub next_forced-requires : goal.next_forced-requires
next_forced-requires c = let b = c.build.ensures in
    record { shape = built-shape b c.requires.valid c.args.row.now c.requires.m_in_bounds; roomy = built-roomy b c.requires.valid (omega arith) }

pub returns : goal.returns
returns c = next_built c.build.ensures Next c.args.row.now refl c.next_forced.ensures
