use Rattle.reader_bytes.proofs.Parts.{open-deep, open-taken}
use Rattle.reader_bytes.proofs.open.Goals as goal

pub returns-then-d-ge-MAX_DEPTH : goal.returns-then-d-ge-MAX_DEPTH
returns-then-d-ge-MAX_DEPTH c = λ o k p x y a b. open-deep _ _ _ o k p x y a b c.if-d-ge-MAX_DEPTH.true

pub returns : goal.returns
returns c = λ o k p x y a b. open-taken _ _ _ o k p x y a b c.if-d-ge-MAX_DEPTH.false
