use mathlib.Core.Path.{refl}
use Rattle.same_decide.proofs.Rows.{hands_out}
use Rattle.same_decide.proofs.ask.Goals as goal

pub returns : goal.returns
returns c = hands_out _ c.call_valid.result c.call_valid.ensures c.found_code.ensures refl
