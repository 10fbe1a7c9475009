use native.Mathlib.Omega.{arith}
use borrow.Author.Tests.{lt-ltb, le-ltb}
use lib.ListN.{length-set}
use Rattle.register.specs.Answers.{emptied_of}
use Rattle.register.proofs.empty.Goals as goal

pub returns-then-register-lt-SIZE : goal.returns-then-register-lt-SIZE
unfolding emptied_of
returns-then-register-lt-SIZE c = simp (lt-ltb _ _ c.if-register-lt-SIZE.true)

pub bounds-register-0 : goal.bounds-register-0
bounds-register-0 c = simp length-set (omega arith)

pub returns : goal.returns
unfolding emptied_of
returns c = simp (le-ltb _ _ c.if-register-lt-SIZE.false)
