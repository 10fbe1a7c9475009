use borrow.Author.Tests.{le-leb, lt-leb}
use Rattle.ids.specs.Limits.{max_text}
use Rattle.reader_checks.proofs.limit.cap.Goals as goal

pub returns-then-q : goal.returns-then-q
returns-then-q c = rw (lt-leb _ max_text c.if-q.true)

pub returns : goal.returns
returns c = rw (le-leb _ max_text c.if-q.false)
