use native.Mathlib.Omega.{arith}
use Rattle.std.proofs.Common.{refl, rules}
use Rattle.register_walk.proofs.Steps.{step-law, refused, found_within}
use Rattle.register_walk.proofs.walk_at.Goals as goal

pub returns-in_err-found : goal.returns-in_err-found
returns-in_err-found c = search (rules, refused)

pub overflow_add-result : goal.overflow_add-result
overflow_add-result c = let x = rw c.in-Some.is at c.in_ok-found.ensures in omega (arith, found_within _ _ _ x refl)

pub returns-in-Some : goal.returns-in-Some
returns-in-Some c = step-law _ _ _ (rw c.in-Some.is at c.in_ok-found.ensures)

pub returns-in-None : goal.returns-in-None
returns-in-None c = step-law _ _ _ (rw c.in-None.is at c.in_ok-found.ensures)
