use mathlib.Core.Path.{sym, ◌∙◌}
use borrow.Author.Tests.{leb-true}
use Rattle.loops.proofs.Loops.{and_left, and_right}
use Rattle.matching_search.proofs.Flags.{never}
use Rattle.matching_engine.proofs.stranded.Goals as goal

pub returns-then-at-last : goal.returns-then-at-last
returns-then-at-last c = λ e. record { there = c.if-at-last.true; wants = sym c.unpaired.ensures ∙ and_left c.unpaired.result _ e; late = leb-true _ _ (and_right c.unpaired.result _ e) }

pub returns : goal.returns
returns c = λ e. absurd (never e)
