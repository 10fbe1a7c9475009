use mathlib.Core.Path.{◌∙◌}
use Rattle.same_open.proofs.Laws.{face-other, face-open, face-few}
use Rattle.same_open.proofs.may_face.Goals as goal

pub returns-then-c-eq5 : goal.returns-then-c-eq5
returns-then-c-eq5 c = face-other _ _ c.if-c-eq5.true

pub returns-then-c-eq4 : goal.returns-then-c-eq4
returns-then-c-eq4 c = face-open _ _ c.if-c-eq4.true

pub returns : goal.returns
returns c = c.agree.ensures ∙ face-few _ _ c.if-c-eq5.false c.if-c-eq4.false
