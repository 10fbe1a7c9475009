use native.Mathlib.Omega.{arith}
use Rattle.matching_forced.proofs.Filling.{fill_start, fill-bond, fill-ends, fill-room, fill-less, fill_step, fill-stuck, fill-rests, turn-stuck, turn-rests, turn-pair}
use Rattle.matching_forced.proofs.force.Goals as goal

pub loop-bond-init : goal.loop-bond-init
loop-bond-init c = fill_start c.requires.bond_tables

pub take_turn-turn-requires : goal.take_turn-turn-requires
take_turn-turn-requires c = record { bond_tables = c.loop-bond.invariant.tables; need_len_bound = (omega (arith, c.requires.roomy.atoms_few, c.loop-bond.invariant.long), c.requires.roomy.bonds_few) }

pub shape_of-need-in-Stuck : goal.shape_of-need-in-Stuck
shape_of-need-in-Stuck c = c.loop-bond.invariant.long

pub shape_of-pairs-in-Stuck : goal.shape_of-pairs-in-Stuck
shape_of-pairs-in-Stuck c = c.loop-bond.invariant.wide

pub returns-in-Stuck : goal.returns-in-Stuck
returns-in-Stuck c = fill-stuck c.loop-bond.invariant c.requires.roomy (turn-stuck c.take_turn-turn.ensures c.in-Stuck.is)

pub shape_of-need-in-Rests : goal.shape_of-need-in-Rests
shape_of-need-in-Rests c = c.loop-bond.invariant.long

pub shape_of-pairs-in-Rests : goal.shape_of-pairs-in-Rests
shape_of-pairs-in-Rests c = c.loop-bond.invariant.wide

pub returns-in-Rests : goal.returns-in-Rests
returns-in-Rests c = fill-rests c.loop-bond.invariant c.requires.roomy (turn-rests c.take_turn-turn.ensures c.in-Rests.is)

pub overflow_cast-pairs : goal.overflow_cast-pairs
overflow_cast-pairs c = omega (arith, fill-bond c.loop-bond.invariant (turn-pair c.take_turn-turn.ensures c.in-Pair.is), c.requires.roomy.bonds_few)

pub offset_bounds-pairs-n : goal.offset_bounds-pairs-n
offset_bounds-pairs-n c = omega (arith, fill-room c.loop-bond.invariant (turn-pair c.take_turn-turn.ensures c.in-Pair.is) c.requires.roomy, c.loop-bond.invariant.wide)

pub bounds-pairs-n : goal.bounds-pairs-n
bounds-pairs-n c = fill-room c.loop-bond.invariant (turn-pair c.take_turn-turn.ensures c.in-Pair.is) c.requires.roomy

pub mark-requires : goal.mark-requires
mark-requires c = fill-ends c.loop-bond.invariant (turn-pair c.take_turn-turn.ensures c.in-Pair.is)

pub overflow_add-n : goal.overflow_add-n
overflow_add-n c = omega (arith, fill-room c.loop-bond.invariant (turn-pair c.take_turn-turn.ensures c.in-Pair.is) c.requires.roomy, c.loop-bond.invariant.wide)

pub loop-bond-smaller : goal.loop-bond-smaller
loop-bond-smaller c = fill-less c.loop-bond.invariant (turn-pair c.take_turn-turn.ensures c.in-Pair.is) c.mark.ensures

pub loop-bond-preserved : goal.loop-bond-preserved
loop-bond-preserved c = fill_step c.loop-bond.invariant (turn-pair c.take_turn-turn.ensures c.in-Pair.is) c.mark.ensures c.requires.roomy
