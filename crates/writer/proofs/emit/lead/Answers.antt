use Rattle.buffer.proofs.Laws.{also, as_is, nothing}
use Rattle.writer.proofs.Emission.{child-lead, first-lead, piece-lead}
use Rattle.writer.proofs.emit.lead.Goals as goal

pub returns-then-up-gt0 : goal.returns-then-up-gt0
returns-then-up-gt0 c = as_is (child-lead _ _ _ _ c.if-up-gt0.true) (also c.leave-at.ensures (also c.enter-at.ensures c.bond_symbol.ensures))

pub returns-then-x-eq0 : goal.returns-then-x-eq0
returns-then-x-eq0 c = as_is (first-lead _ _ _ _ c.if-up-gt0.false c.if-x-eq0.true) nothing

pub returns : goal.returns
returns c = as_is (piece-lead _ _ _ _ c.if-up-gt0.false c.if-x-eq0.false) c.put.ensures
