use Rattle.table_graph.proofs.Graph.{built-shape}
use Rattle.kekule.proofs.Kekule.{first-built, next_built}
use Rattle.kekule.proofs.search_sized.Goals as goal

pub first-requires : goal.first-requires
first-requires g c = built-shape c.build.ensures c.requires.valid c.args.row.now c.requires.m_in_bounds

pub next-requires : goal.next-requires
next-requires g c = built-shape c.build.ensures c.requires.valid c.args.row.now c.requires.m_in_bounds

pub returns-in-First : goal.returns-in-First
returns-in-First g c = first-built c.build.ensures c.args.c c.args.row.now c.in-First.is c.first.ensures.row_after

pub returns-in-Next : goal.returns-in-Next
returns-in-Next g c = next_built c.build.ensures c.args.c c.args.row.now c.in-Next.is c.next.ensures.row_after
