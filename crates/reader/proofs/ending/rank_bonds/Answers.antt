use native.Mathlib.Omega.{arith}
use Rattle.reader.proofs.Ranks.{ranking-start, ranking-key, ranking-next, ranking-step, ranking-end}
use Rattle.reader.proofs.ending.rank_bonds.Goals as goal

pub loop-i-init : goal.loop-i-init
loop-i-init c = ranking-start

pub overflow_mul-p : goal.overflow_mul-p
overflow_mul-p c = omega (arith, c.requires.few)

pub bond_number-second-requires : goal.bond_number-second-requires
bond_number-second-requires c = (omega (arith, c.requires.few), omega arith)

pub offset_bounds-keys-p : goal.offset_bounds-keys-p
offset_bounds-keys-p c = omega (arith, c.requires.few)

pub bounds-keys-p : goal.bounds-keys-p
bounds-keys-p c = omega (arith, c.requires.few)

pub first_rank-requires : goal.first_rank-requires
first_rank-requires c = let w = c.loop-i.invariant in
    (ranking-key w c.requires _ (omega arith), omega (arith, c.bond_number-second.ensures, c.requires.second c.loop-i.i c.loop-i-test.true))

pub offset_bounds-keys-p-in-loop-i : goal.offset_bounds-keys-p-in-loop-i
offset_bounds-keys-p-in-loop-i c = omega (arith, c.requires.few)

pub bounds-keys-p-in-loop-i : goal.bounds-keys-p-in-loop-i
bounds-keys-p-in-loop-i c = omega (arith, c.requires.few)

pub overflow_add-p : goal.overflow_add-p
overflow_add-p c = omega (arith, c.requires.few)

pub offset_bounds-keys-p-in-loop-i-2 : goal.offset_bounds-keys-p-in-loop-i-2
offset_bounds-keys-p-in-loop-i-2 c = omega (arith, c.requires.few)

pub bounds-keys-p-in-loop-i-2 : goal.bounds-keys-p-in-loop-i-2
bounds-keys-p-in-loop-i-2 c = omega (arith, c.requires.few)

pub second_rank-requires : goal.second_rank-requires
second_rank-requires c = ranking-next c.loop-i.invariant c.requires _

pub overflow_add-keys : goal.overflow_add-keys
overflow_add-keys c = omega (arith, c.requires.few)

pub offset_bounds-keys-p-in-loop-i-3 : goal.offset_bounds-keys-p-in-loop-i-3
offset_bounds-keys-p-in-loop-i-3 c = omega (arith, c.requires.few)

pub bounds-keys-p-in-loop-i-3 : goal.bounds-keys-p-in-loop-i-3
bounds-keys-p-in-loop-i-3 c = omega (arith, c.requires.few)

pub loop-i-preserved : goal.loop-i-preserved
loop-i-preserved c = ranking-step c.loop-i.invariant c.loop-i-test.true c.bond_number-second.ensures c.first_rank.ensures c.second_rank.ensures

pub returns : goal.returns
returns c = ranking-end c.loop-i.invariant c.loop-i-test.false
