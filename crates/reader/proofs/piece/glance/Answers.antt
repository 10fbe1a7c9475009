use mathlib.Core.Path.{refl, sym, ◌∙◌}
use Rattle.kinds.proofs.Kind.{none-given, some-given}
use native.Mathlib.Omega.{arith}
use Rattle.reader.proofs.Pieces.{seen_end, seen-letter, seen-branch, seen-close, seen-dot, seen-symbol, symbol-in, loose}
use Rattle.reader.proofs.piece.glance.Goals as goal

pub returns-then-s-at : goal.returns-then-s-at
returns-then-s-at c = seen_end _ _ c.requires c.if-s-at.true

pub returns-then-b : goal.returns-then-b
returns-then-b c = seen-letter _ _ c.peek-b.ensures c.if-s-at.false c.if-b.true

pub returns-then-b-eq40 : goal.returns-then-b-eq40
returns-then-b-eq40 c = seen-branch _ _ c.peek-b.ensures c.if-b-eq40.true

pub returns-then-b-eq41 : goal.returns-then-b-eq41
returns-then-b-eq41 c = seen-close _ _ c.peek-b.ensures c.if-b-eq41.true

pub returns-then-b-eq46 : goal.returns-then-b-eq46
returns-then-b-eq46 c = seen-dot _ _ c.peek-b.ensures c.if-b-eq46.true

pub bridge_at-requires : goal.bridge_at-requires
bridge_at-requires c = record { at_in_bounds = c.requires; free = λ z. loose _ _ c.peek-b.ensures c.if-s-at.false refl (none-given c.symbol_kind.ensures c.in-None.is) c.if-b-eq40.false c.if-b-eq41.false c.if-b-eq46.false }

pub returns-in-None : goal.returns-in-None
returns-in-None c = c.bridge_at.ensures

pub overflow_add-at : goal.overflow_add-at
overflow_add-at c = let g = some-given c.symbol_kind.ensures c.in-Some.is in omega (arith, symbol-in _ _ c.peek-b.ensures g.0 (λ e. g.1 (sym g.0 ∙ e)))

pub bridge_at-requires-in-Some : goal.bridge_at-requires-in-Some
bridge_at-requires-in-Some c = let g = some-given c.symbol_kind.ensures c.in-Some.is in
    record { at_in_bounds = omega (arith, symbol-in _ _ c.peek-b.ensures g.0 (λ e. g.1 (sym g.0 ∙ e))); free = λ z. absurd (g.1 (sym g.0 ∙ z)) }

pub returns-in-Some : goal.returns-in-Some
returns-in-Some c = let g = some-given c.symbol_kind.ensures c.in-Some.is in seen-symbol _ _ c.peek-b.ensures g.0 (λ e. g.1 (sym g.0 ∙ e)) c.bridge_at-in-Some.result c.bridge_at-in-Some.ensures
