use Rattle.same_mirror.proofs.Checking.{refused}
use Rattle.same_mirror.proofs.is_alike.Goals as goal

pub returns-then-not-guess : goal.returns-then-not-guess
returns-then-not-guess c = refused

pub returns : goal.returns
returns c = c.is_like.ensures
