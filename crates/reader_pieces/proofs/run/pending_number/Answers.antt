use Rattle.reader_pieces.proofs.TakenUp.{pending-again, pending-above}
use Rattle.reader_pieces.proofs.run.pending_number.Goals as goal

pub returns-then-k-gt-DOT : goal.returns-then-k-gt-DOT
returns-then-k-gt-DOT c = pending-above _ c.if-k-gt-DOT.true

pub returns : goal.returns
returns c = pending-again _ c.if-k-gt-DOT.false
