use Rattle.buffer.proofs.Laws.{counted}
use mathlib.Core.Path.{refl}
use Rattle.report_blocks.proofs.whole.report_length.Goals as goal

pub returns : goal.returns
returns c = counted c.lay.ensures refl
