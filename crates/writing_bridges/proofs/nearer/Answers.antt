use Rattle.writing_bridges.proofs.Laws.{near-other, near-low, near_new, near-keep, near-closer}
use native.Mathlib.Omega.{arith}
use Rattle.writing_bridges.proofs.nearer.Goals as goal

pub overflow_cast-ends : goal.overflow_cast-ends
overflow_cast-ends c = omega (arith, c.shared_slice_known-1.given c.args.i.0)

pub returns-then-ends-at : goal.returns-then-ends-at
returns-then-ends-at c = λ n. near-other c.requires.i_lt_k n c.if-ends-at.true

pub overflow_cast-key : goal.overflow_cast-key
overflow_cast-key c = omega (arith, c.shared_slice_known-2-1.given c.args.i.0)

pub returns-then-key-from : goal.returns-then-key-from
returns-then-key-from c = λ n. near-low c.requires.i_lt_k n c.if-key-from.true

pub returns-then-k-old : goal.returns-then-k-old
returns-then-k-old c = λ n. near_new c.requires.i_lt_k n c.if-ends-at.false c.if-key-from.false c.if-k-old.true

pub overflow_cast-keys : goal.overflow_cast-keys
overflow_cast-keys c = omega (arith, c.shared_slice_known-3-1.given c.args.best.0)

pub returns-then-keys-old : goal.returns-then-keys-old
returns-then-keys-old c = λ n. near-keep c.requires.i_lt_k n c.if-k-old.false c.if-keys-old.true

pub returns : goal.returns
returns c = λ n. near-closer c.requires.i_lt_k n c.if-ends-at.false c.if-key-from.false c.if-keys-old.false
