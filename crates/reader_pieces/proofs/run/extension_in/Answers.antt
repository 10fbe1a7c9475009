use Rattle.reader_pieces.proofs.run.extension_in.Goals as goal

pub returns-then-mode : goal.returns-then-mode
returns-then-mode c = rw c.if-mode.true

pub returns : goal.returns
returns c = rw c.if-mode.false
