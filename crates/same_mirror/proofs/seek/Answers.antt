use borrow.Author.Tests.{not-true}
use Rattle.same_open.proofs.Seeking.{among-start}
use Rattle.same_mirror.proofs.seek.Goals as goal

pub returns-then-not-settle_all : goal.returns-then-not-settle_all
returns-then-not-settle_all c = λ h l t b o f. c.settle_all.ensures.fact (not-true c.settle_all.result c.if-not-settle_all.true-raw) t (among-start _ _ c.args.target.ok.now _ _ _ c.fill_candidates.ensures b o f)

pub returns : goal.returns
returns c = λ h l t b o f. c.search.ensures.fact h l t (c.settle_all.ensures.by_index t (among-start _ _ c.args.target.ok.now _ _ _ c.fill_candidates.ensures b o f))
