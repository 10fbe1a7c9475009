use borrow.Author.Tests.{not-true, not-false}
use mathlib.Core.Path.{sym, ◌∙◌}
use native.Mathlib.Omega.{arith}
use Rattle.reading_fields.proofs.Bytes.{nonzero-digit, digit-in}
use Rattle.reading_fields.proofs.Fields.{extension-none, extension-wrong, extension-all}
use Rattle.reading_fields.proofs.bracket.extension_at.Goals as goal

pub returns-then-peek-ne58 : goal.returns-then-peek-ne58
returns-then-peek-ne58 c = extension-none _ _ c.requires c.peek.ensures c.if-peek-ne58.true

pub returns-then-not-is_nonzero : goal.returns-then-not-is_nonzero
returns-then-not-is_nonzero c = extension-wrong _ _ c.peek.ensures c.if-peek-ne58.false c.peek-b.ensures (sym c.is_nonzero.ensures ∙ not-true _ c.if-not-is_nonzero.true-raw)

pub value-requires : goal.value-requires
value-requires c = nonzero-digit _ (sym c.is_nonzero.ensures ∙ not-false _ c.if-not-is_nonzero.false-raw)

pub more-two-requires : goal.more-two-requires
more-two-requires c = record { at_in_bounds = omega (arith, digit-in c.peek-b.ensures (nonzero-digit _ (sym c.is_nonzero.ensures ∙ not-false _ c.if-not-is_nonzero.false-raw))); value_bound = omega (arith, c.value.ensures.1) }

pub returns : goal.returns
returns c = extension-all _ _ c.peek.ensures c.if-peek-ne58.false c.peek-b.ensures (sym c.is_nonzero.ensures ∙ not-false _ c.if-not-is_nonzero.false-raw) c.value.ensures.0 c.more-two.ensures c.more-three.ensures c.more.ensures
