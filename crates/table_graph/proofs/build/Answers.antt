use Rattle.table_graph.proofs.Graph.{wide, flags-built, prepared}
use Rattle.table_graph.proofs.build.Goals as goal

pub wire-requires : goal.wire-requires
wire-requires c = let r = c.requires.room in
    record { wide = wide c.requires.valid r.firsts r.seconds r.elided r.summed; sums_value = c.requires.sums_value }

pub returns : goal.returns
returns c = let e = c.wire.ensures in
    flags-built c.args.flags.now (prepared c.requires.valid e.wired e.sums_after c.requires.room.summed) c.fill_flags.ensures
