use mathlib.Core.Path.{ap}
use Rattle.kekule.specs.Kekule.{call_reply_of}
use Rattle.kekule.proofs.call_valid.Goals as goal

pub returns : goal.returns
returns c = simp c.found_of.ensures (ap call_reply_of c.ask.ensures)
