use mathlib.Core.Path.{ap, ◌∙◌}
use Rattle.balsa.specs.Registers.{walk_reply}
use Rattle.balsa.proofs.register_calls.balsa_register_walk.Goals as goal

pub returns : goal.returns
returns c = c.walk_reply.ensures ∙ ap walk_reply c.walk_at.ensures
