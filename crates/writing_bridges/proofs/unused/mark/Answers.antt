use Rattle.writing_bridges.proofs.BondArrays.{mark-first, mark-further}
use Rattle.writing_bridges.proofs.unused.mark.Goals as goal

pub returns-then-old-eq0 : goal.returns-then-old-eq0
returns-then-old-eq0 c = mark-first _ _ c.if-old-eq0.true

pub returns-else-old-eq0 : goal.returns-else-old-eq0
returns-else-old-eq0 c = mark-further _ _ c.if-old-eq0.false
