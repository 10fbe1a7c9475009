use Rattle.reader.proofs.Pieces.{seen-fresh, seen-older}
use Rattle.reader.proofs.piece.piece_at.Goals as goal

pub returns-then-fresh : goal.returns-then-fresh
returns-then-fresh c = seen-fresh _ _ _ c.if-fresh.true c.requires

pub returns : goal.returns
returns c = seen-older _ _ c.args.joint c.glance.result c.if-fresh.false c.glance.ensures
