use Rattle.same_drawing.proofs.Five.{other_key, same_key}
use Rattle.same_drawing.proofs.may_go.Goals as goal

pub returns-then-keys1-i : goal.returns-then-keys1-i
returns-then-keys1-i c = other_key _ _ _ _ _ _ c.if-keys1-i.true

pub returns : goal.returns
returns c = same_key _ _ _ _ _ _ c.if-keys1-i.false c.same_cells.ensures
