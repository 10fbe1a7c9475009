use Rattle.reading_deeds.proofs.Laws.{dot-joint, kind-small, symbol-joint}
use native.Mathlib.Omega.{arith}
use mathlib.Core.Path.{◌∙◌}
use Rattle.kinds.proofs.Kind.{unwrapped}
use Rattle.reading_deeds.proofs.joint.Goals as goal

pub returns-then-b-eq46 : goal.returns-then-b-eq46
returns-then-b-eq46 c = dot-joint _ c.if-b-eq46.true

pub overflow_add-result : goal.overflow_add-result
overflow_add-result c = omega (arith, kind-small _ (c.unwrap_or.ensures ∙ unwrapped _ c.symbol_kind.ensures))

pub returns : goal.returns
returns c = symbol-joint _ c.if-b-eq46.false (c.unwrap_or.ensures ∙ unwrapped _ c.symbol_kind.ensures)
