use Prim.Native.Nat.{◌-◌}
use native.Mathlib.Omega.{arith}
use Rattle.reading_fields.proofs.Bytes.{byte-in}
use Rattle.reader.proofs.Branches.{ended-closed, ended-unclosed}
use Rattle.reader.proofs.sequence.end_branch.Goals as goal

pub returns-then-peek-ne41 : goal.returns-then-peek-ne41
returns-then-peek-ne41 c = λ p x y. ended-unclosed _ _ c.peek.ensures c.if-peek-ne41.true

pub close-requires : goal.close-requires
close-requires c = let w = c.requires.closable in record { depth_nonzero = w.0; depth_le_max_depth = w.1.depth; depth_bound = omega (arith, w.1.stack (c.args.o.st.depth - 1)) }

pub overflow_add-result : goal.overflow_add-result
overflow_add-result c = omega (arith, c.requires.s_len_bound, byte-in c.peek.ensures c.if-peek-ne41.false)

pub returns : goal.returns
returns c = λ p x y. ended-closed _ _ c.peek.ensures c.if-peek-ne41.false (c.close.ensures p x y)
