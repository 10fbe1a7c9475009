use mathlib.Core.Path.{refl}
use native.Mathlib.Omega.{arith}
use Rattle.table_graph.proofs.Graph.{built-shape}
use Rattle.kekule.proofs.Kekule.{first-built, next_built}
use Rattle.kekule_plain.proofs.search_graph.Goals as goal

pub build-requires : goal.build-requires
build-requires c = record { valid = c.requires.valid; room = record { atoms = omega (arith, c.requires.valid.atoms_few); firsts = omega (arith, c.requires.valid.bonds_few); seconds = omega (arith, c.requires.valid.bonds_few); elided = omega (arith, c.requires.valid.bonds_few); summed = omega (arith, c.requires.valid.atoms_few) }; sums_value = refl }

pub first-requires : goal.first-requires
first-requires c = built-shape c.build.ensures c.requires.valid c.args.row.now c.requires.m_in_bounds

pub next-requires : goal.next-requires
next-requires c = built-shape c.build.ensures c.requires.valid c.args.row.now c.requires.m_in_bounds

pub returns-in-First : goal.returns-in-First
returns-in-First c = first-built c.build.ensures c.args.c c.args.row.now c.in-First.is c.first.ensures.row_after

pub returns-in-Next : goal.returns-in-Next
returns-in-Next c = next_built c.build.ensures c.args.c c.args.row.now c.in-Next.is c.next.ensures.row_after
