use Rattle.std.proofs.Common.{ap, ◌∙◌}
use Rattle.register.specs.Answers.{code_of}
use Rattle.register.proofs.Paths.{refusing-of}
use Rattle.register_walk.specs.Walk.{started_of}
use Rattle.register_walk.proofs.start.Goals as goal

pub returns : goal.returns
unfolding started_of
returns c = ap code_of c.ready.ensures.value ∙ refusing-of code_of _ _ _ _
