use borrow.Author.Tests.{not-true}
use Rattle.same_support.proofs.settle_all.Goals as goal

pub returns-then-not-settle : goal.returns-then-not-settle
returns-then-not-settle c = record { by_index = c.settle.ensures.by_index; fact = λ f. c.settle.ensures.fact (not-true c.settle.result c.if-not-settle.true-raw) }

pub returns : goal.returns
returns c = record { by_index = λ t a. c.settle-2.ensures.by_index t (c.settle.ensures.by_index t a); fact = λ f t a. c.settle-2.ensures.fact f t (c.settle.ensures.by_index t a) }
