use mathlib.Core.Path.{sym, ◌∙◌}
use native.Mathlib.Omega.{arith}
use borrow.Author.Tests.{not-true, not-false}
use Rattle.reading_fields.proofs.Bytes.{nonzero-digit, digit-in}
use Rattle.reader.proofs.Pieces.{seen-digit, seen-atom, seen-wrong, seen-wrong-2, seen-percent}
use Rattle.reader.proofs.piece.bridge_at.Goals as goal

pub value-requires : goal.value-requires
value-requires c = nonzero-digit _ (sym c.is_nonzero.ensures ∙ c.if-is_nonzero.true)

pub returns-then-is_nonzero : goal.returns-then-is_nonzero
returns-then-is_nonzero c = seen-digit _ _ _ c.peek-b.ensures (sym c.is_nonzero.ensures ∙ c.if-is_nonzero.true) c.value.ensures.0

pub returns-then-b-ne37 : goal.returns-then-b-ne37
returns-then-b-ne37 c = seen-atom _ _ c.args.k c.peek-b.ensures c.requires.at_in_bounds c.requires.free (sym c.is_nonzero.ensures ∙ c.if-is_nonzero.false) c.if-b-ne37.true c.joint_of.ensures

pub returns-then-not-is_nonzero : goal.returns-then-not-is_nonzero
returns-then-not-is_nonzero c = seen-wrong _ _ c.args.k c.peek-b.ensures c.if-b-ne37.false c.peek-c.ensures (sym c.is_nonzero-2.ensures ∙ not-true _ c.if-not-is_nonzero.true-raw)

pub overflow_add-at-2 : goal.overflow_add-at-2
overflow_add-at-2 c = omega (arith, digit-in c.peek-c.ensures (nonzero-digit _ (sym c.is_nonzero-2.ensures ∙ not-false _ c.if-not-is_nonzero.false-raw)))

pub overflow_add-result-then-not-is_digit : goal.overflow_add-result-then-not-is_digit
overflow_add-result-then-not-is_digit c = omega (arith, digit-in c.peek-c.ensures (nonzero-digit _ (sym c.is_nonzero-2.ensures ∙ not-false _ c.if-not-is_nonzero.false-raw)))

pub returns-then-not-is_digit : goal.returns-then-not-is_digit
returns-then-not-is_digit c = seen-wrong-2 _ _ c.args.k c.peek-b.ensures c.if-b-ne37.false c.peek-c.ensures (sym c.is_nonzero-2.ensures ∙ not-false _ c.if-not-is_nonzero.false-raw) c.peek-d.ensures (sym c.is_digit.ensures ∙ not-true _ c.if-not-is_digit.true-raw)

pub value-requires-2 : goal.value-requires-2
value-requires-2 c = nonzero-digit _ (sym c.is_nonzero-2.ensures ∙ not-false _ c.if-not-is_nonzero.false-raw)

pub overflow_mul-result : goal.overflow_mul-result
overflow_mul-result c = omega (arith, c.value-2.ensures.1)

pub value-requires-3 : goal.value-requires-3
value-requires-3 c = sym c.is_digit.ensures ∙ not-false _ c.if-not-is_digit.false-raw

pub overflow_add-result-2 : goal.overflow_add-result-2
overflow_add-result-2 c = omega (arith, c.value-2.ensures.1, c.value-3.ensures.1)

pub overflow_add-result-3 : goal.overflow_add-result-3
overflow_add-result-3 c = omega (arith, digit-in c.peek-d.ensures (sym c.is_digit.ensures ∙ not-false _ c.if-not-is_digit.false-raw))

pub returns : goal.returns
returns c = seen-percent _ _ _ c.peek-b.ensures c.if-b-ne37.false c.peek-c.ensures (sym c.is_nonzero-2.ensures ∙ not-false _ c.if-not-is_nonzero.false-raw) c.peek-d.ensures (sym c.is_digit.ensures ∙ not-false _ c.if-not-is_digit.false-raw) c.value-2.ensures.0 c.value-3.ensures.0
