use mathlib.Core.Path.{ap, ◌∙◌}
use Rattle.balsa.specs.Registers.{entry_reply}
use Rattle.balsa.proofs.register_calls.balsa_register_entry.Goals as goal

pub returns : goal.returns
returns c = c.from.ensures ∙ ap entry_reply c.entry.ensures
