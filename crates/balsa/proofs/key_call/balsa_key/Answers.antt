use mathlib.Core.Path.{ap, ◌∙◌}
use Rattle.balsa.specs.Keys.{key_reply}
use Rattle.balsa.proofs.key_call.balsa_key.Goals as goal

pub returns : goal.returns
returns c = c.from.ensures ∙ ap key_reply c.key.ensures
