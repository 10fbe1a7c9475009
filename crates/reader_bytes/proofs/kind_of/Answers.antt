use Rattle.reader_bytes.proofs.Parts.{kind-dot, kind-symbol}
use Rattle.reader_bytes.proofs.kind_of.Goals as goal

pub returns-then-pending-ge-DOT : goal.returns-then-pending-ge-DOT
returns-then-pending-ge-DOT c = kind-dot _ c.if-pending-ge-DOT.true

pub returns : goal.returns
returns c = kind-symbol _ c.if-pending-eq0.false c.if-pending-ge-DOT.false
