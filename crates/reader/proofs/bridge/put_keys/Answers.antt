use borrow.Author.Tests.{lt-ltb, le-ltb}
use Rattle.reader.proofs.bridge.put_keys.Goals as goal

pub returns-then-u-hub : goal.returns-then-u-hub
returns-then-u-hub c = simp (lt-ltb _ _ c.if-u-hub.true)

pub returns : goal.returns
returns c = simp (le-ltb _ _ c.if-u-hub.false)
