use mathlib.Core.Path.{sym, ◌∙◌}
use Rattle.reading.proofs.Letters.{nonzero-is-digit}
use Rattle.reading_deeds.proofs.Laws.{bridge-here, bridge-on}
use Rattle.reading_deeds.proofs.or_bridge.Goals as goal

pub value-requires : goal.value-requires
value-requires c = nonzero-is-digit _ (sym c.is_nonzero.ensures ∙ c.if-is_nonzero.true)

pub returns-then-is_nonzero : goal.returns-then-is_nonzero
returns-then-is_nonzero c = λ a w. bridge-here _ a (sym c.is_nonzero.ensures ∙ c.if-is_nonzero.true) c.value.ensures.0

pub returns : goal.returns
returns c = λ a w. bridge-on _ a (sym c.is_nonzero.ensures ∙ c.if-is_nonzero.false) w
