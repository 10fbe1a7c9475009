use mathlib.Core.Path.{refl, sym, ◌∙◌}
use Rattle.kinds.proofs.Kind.{none-given, some-given}
use Rattle.reader.proofs.Pieces.{joined-dot, joined-none, joined-symbol, symbol-in}
use native.Mathlib.Omega.{arith}
use Rattle.reader.proofs.piece.joint_at.Goals as goal

pub returns-then-b-eq46 : goal.returns-then-b-eq46
returns-then-b-eq46 c = joined-dot _ _ c.peek-b.ensures c.if-b-eq46.true

pub returns-in-None : goal.returns-in-None
returns-in-None c = joined-none _ _ c.peek-b.ensures c.requires c.if-b-eq46.false refl (none-given c.symbol_kind.ensures c.in-None.is)

pub overflow_add-result-in-Some : goal.overflow_add-result-in-Some
overflow_add-result-in-Some c = let g = some-given c.symbol_kind.ensures c.in-Some.is in omega (arith, symbol-in _ _ c.peek-b.ensures g.0 (λ e. g.1 (sym g.0 ∙ e)))

pub returns-in-Some : goal.returns-in-Some
returns-in-Some c = let g = some-given c.symbol_kind.ensures c.in-Some.is in joined-symbol _ _ c.peek-b.ensures g.0 (λ e. g.1 (sym g.0 ∙ e))
