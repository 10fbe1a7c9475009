use native.Mathlib.Omega.{arith}
use Rattle.same_keys.proofs.Low.{low-more}
use Rattle.same_part.proofs.Step.{filling-start, filling_step, filling-end}
use Rattle.same_part.proofs.fill_part.Goals as goal

pub loop-k-init : goal.loop-k-init
loop-k-init c = filling-start c.requires.p_value

pub bounds-opened-k : goal.bounds-opened-k
bounds-opened-k c = omega (arith, c.requires.drawable.few, c.loop-k-test.true)

pub bounds-row-k : goal.bounds-row-k
bounds-row-k c = omega (arith, c.requires.drawable.room, c.loop-k-test.true)

pub add_part-requires : goal.add_part-requires
add_part-requires c = record { ends = c.requires.drawable.ends c.loop-k.k c.loop-k-test.true; low = low-more c.loop-k.invariant.low (omega (arith, c.requires.drawable.few, c.loop-k-test.true)) }

pub loop-k-preserved : goal.loop-k-preserved
loop-k-preserved c = filling_step c.loop-k.invariant c.loop-k-test.true c.add_part.ensures

pub returns : goal.returns
returns c = filling-end c.loop-k.invariant c.requires.p_value c.loop-k-test.false
