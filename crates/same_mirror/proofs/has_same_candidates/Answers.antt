use borrow.Author.Tests.{not-false}
use Rattle.same_mirror.proofs.Checking.{all_start, all-step, all_end, refused}
use Rattle.same_mirror.proofs.has_same_candidates.Goals as goal

pub loop-a-init : goal.loop-a-init
loop-a-init c = all_start

pub is_carried-requires : goal.is_carried-requires
is_carried-requires c = c.requires

pub returns-then-not-is_carried : goal.returns-then-not-is_carried
returns-then-not-is_carried c = refused

pub loop-a-preserved : goal.loop-a-preserved
loop-a-preserved c = all-step c.loop-a.invariant c.loop-a-test.true (c.is_carried.ensures (not-false c.is_carried.result c.if-not-is_carried.false-raw))

pub returns : goal.returns
returns c = λ h a e i j. all_end c.loop-a.invariant c.loop-a-test.false a i e j
