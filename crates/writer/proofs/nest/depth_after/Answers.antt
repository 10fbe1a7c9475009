use Rattle.writer.proofs.Nesting.{after-root, after_last, after-deep, after-branch}
use borrow.Author.Tests.{not-true, not-false}
use Rattle.writer.proofs.nest.depth_after.Goals as goal

pub returns-then-up-eq0 : goal.returns-then-up-eq0
returns-then-up-eq0 c = after-root _ _ _ _ _ c.depth_left-left.ensures c.if-up-eq0.true

pub returns-then-not-more : goal.returns-then-not-more
returns-then-not-more c = after_last _ _ _ _ _ c.depth_left-left.ensures c.if-up-eq0.false (not-true _ c.if-not-more.true-raw)

pub returns-then-left-ge-MAX_DEPTH : goal.returns-then-left-ge-MAX_DEPTH
returns-then-left-ge-MAX_DEPTH c = after-deep _ _ _ _ _ c.depth_left-left.ensures c.if-up-eq0.false (not-false _ c.if-not-more.false-raw) c.if-left-ge-MAX_DEPTH.true

pub returns : goal.returns
returns c = after-branch _ _ _ _ _ c.depth_left-left.ensures c.if-up-eq0.false (not-false _ c.if-not-more.false-raw) c.if-left-ge-MAX_DEPTH.false
