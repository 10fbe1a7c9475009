use native.Mathlib.Omega.{arith}
use Prim.Native.Nat.{ℕ}
use lib.ListN.{length-replicate}
use Rattle.table_graph.proofs.Graph.{wide}
use Rattle.same_keys.specs.Keys.{prime, highest}
use Rattle.same_keys.proofs.Low.{low-more}
use Rattle.same_keys.proofs.Filling.{inside, inside-more}
use Rattle.drawing_key.proofs.Filling.{filled-even, even-low, degrees-low, first-low, keys_filled}
use Rattle.drawing_key.proofs.fill_sized.Goals as goal

pub wire-requires : goal.wire-requires
wire-requires g c = record { wide = wide c.requires.valid (omega (arith, length-replicate {A = ℕ})) (omega (arith, length-replicate {A = ℕ})) (omega (arith, length-replicate {A = ℕ})) (omega (arith, length-replicate {A = ℕ})); sums_value = simp length-replicate }

pub spread-requires : goal.spread-requires
spread-requires g c =
    let i = inside c.requires.valid c.wire.ensures.wired (omega (arith, c.wire.auto.ea, length-replicate {A = ℕ})) (omega (arith, c.wire.auto.eb, length-replicate {A = ℕ})) in
    let o = filled-even 1 c.args.tables.n g.row.N c.requires.room.0 in
    record { inside = (inside-more i o.room, inside-more i c.requires.even.room); low = (even-low o prime (omega arith), even-low c.requires.even (highest 78) (omega arith)) }

pub fill_first-requires : goal.fill_first-requires
fill_first-requires g c =
    let o = filled-even 1 c.args.tables.n g.row.N c.requires.room.0 in
    record { n_le_max_atoms = (c.requires.valid.atoms_few, c.requires.valid.atom_rows); n_in_bounds = (omega (arith, c.wire.auto.sums, length-replicate {A = ℕ}), omega (arith, c.fill_flags.auto.flags, length-replicate {A = ℕ}), omega (arith, c.requires.even.room, c.spread.auto.keys)); low = degrees-low c.requires.valid c.wire.ensures.wired o c.requires.even c.spread.ensures }

pub refine-requires : goal.refine-requires
refine-requires g c =
    let o = filled-even 1 c.args.tables.n g.row.N c.requires.room.0 in
    record { inside = inside c.requires.valid c.wire.ensures.wired (omega (arith, c.wire.auto.ea, length-replicate {A = ℕ})) (omega (arith, c.wire.auto.eb, length-replicate {A = ℕ})); n_in_bounds = (o.room, omega (arith, c.requires.even.room, c.spread.auto.keys, c.fill_first.auto.keys)); r_bound = (omega arith, even-low o prime (omega arith), low-more (first-low c.requires.valid c.wire.ensures.wired o c.requires.even c.spread.ensures c.wire.new.sums c.fill_flags.new.flags c.fill_first.ensures) (omega arith)) }

pub returns : goal.returns
returns g c =
    let o = filled-even 1 c.args.tables.n g.row.N c.requires.room.0 in
    keys_filled c.requires.valid c.wire.ensures.wired o c.requires.even c.spread.ensures _ _ c.wire.ensures.sums_after (omega (arith, length-replicate {A = ℕ})) c.fill_flags.ensures c.fill_first.ensures (omega (arith, c.requires.even.room, c.spread.auto.keys, c.fill_first.auto.keys)) c.refine.ensures
