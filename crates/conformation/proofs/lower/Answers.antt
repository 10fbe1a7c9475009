use mathlib.Core.Path.{refl, sym, ◌∙◌}
use Rattle.kinds.proofs.Kind.{none-given, some-given}
use Rattle.conformation.proofs.Laws.{not-marked, is-lower, not_lower}
use Rattle.conformation.proofs.lower.Goals as goal

pub returns-in-None : goal.returns-in-None
returns-in-None c = let a = c.args in not-marked a.bonds.now a.a.0 a.b.0 a.w refl (none-given c.side.ensures c.in-None.is)

pub returns-then-w-neighbour : goal.returns-then-w-neighbour
returns-then-w-neighbour c = let a = c.args in let g = some-given c.side.ensures c.in-Some.is in is-lower a.bonds.now a.a.0 a.b.0 a.w g.0 (λ e. g.1 (sym g.0 ∙ e)) c.other_end-neighbour.ensures c.if-w-neighbour.true

pub returns : goal.returns
returns c = let a = c.args in let g = some-given c.side.ensures c.in-Some.is in not_lower a.bonds.now a.a.0 a.b.0 a.w g.0 (λ e. g.1 (sym g.0 ∙ e)) c.other_end-neighbour.ensures c.if-w-neighbour.false
