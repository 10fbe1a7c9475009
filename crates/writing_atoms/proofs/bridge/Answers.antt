use Rattle.buffer.proofs.Laws.{also, as_is}
use Rattle.writing_atoms.proofs.Laws.{low-bridge, high-bridge}
use Rattle.writing_atoms.proofs.bridge.Goals as goal

pub returns-then-r-lt9 : goal.returns-then-r-lt9
returns-then-r-lt9 c = as_is (low-bridge _ c.if-r-lt9.true) c.digit.ensures

pub returns : goal.returns
returns c = as_is (high-bridge _ c.if-r-lt9.false) (also c.put-at.ensures c.decimal.ensures)
