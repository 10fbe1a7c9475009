use Rattle.reader_bytes.proofs.Parts.{bonded-first, bonded-later}
use Rattle.reader_bytes.proofs.is_bonded.Goals as goal

pub returns-then-atoms-eq0 : goal.returns-then-atoms-eq0
returns-then-atoms-eq0 c = bonded-first _ c.args.pending c.if-atoms-eq0.true

pub returns : goal.returns
returns c = bonded-later _ c.args.pending c.if-atoms-eq0.false
