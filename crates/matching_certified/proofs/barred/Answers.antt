use Prim.Native.Nat.{◌+◌}
use native.Mathlib.Omega.{arith}
use borrow.Author.Tests.{ltb-true}
use Rattle.matching.specs.Limits.{max_atoms}
use Rattle.matching_search.proofs.Flags.{never, not-false}
use Rattle.matching_certified.proofs.Reason.{cut_all}
use Rattle.matching_certified.proofs.barred.Goals as goal

pub returns-then-lab-need : goal.returns-then-lab-need
returns-then-lab-need c = λ e. absurd (never e)

pub returns-then-not-all_fine : goal.returns-then-not-all_fine
returns-then-not-all_fine c = λ e. absurd (never e)

pub returns : goal.returns
returns c = λ e. cut_all c.args.lab.now (max_atoms + 2) c.requires c.if-lab-need.false (omega arith) c.all_fine.ensures (not-false c.all_fine.result c.if-not-all_fine.false-raw)
    c.parities.ensures c.cut_size-inside.ensures c.odd_labels-odds.ensures (ltb-true _ _ e)
