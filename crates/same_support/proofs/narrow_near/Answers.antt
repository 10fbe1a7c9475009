use borrow.Author.Tests.{not-true}
use Rattle.same_support.proofs.narrow_near.Goals as goal

pub returns-then-not-narrow : goal.returns-then-not-narrow
returns-then-not-narrow c = record { by_index = c.narrow.ensures.by_index; fact = λ f. c.narrow.ensures.fact (not-true c.narrow.result c.if-not-narrow.true-raw) }

pub returns-then-not-settle : goal.returns-then-not-settle
returns-then-not-settle c = record { by_index = λ t a e. c.settle.ensures.by_index t (c.narrow.ensures.by_index t a e); fact = λ f t a e. c.settle.ensures.fact (not-true c.settle.result c.if-not-settle.true-raw) t (c.narrow.ensures.by_index t a e) }

pub returns-then-not-settle-2 : goal.returns-then-not-settle-2
returns-then-not-settle-2 c = record { by_index = λ t a e. c.settle-2.ensures.by_index t (c.settle.ensures.by_index t (c.narrow.ensures.by_index t a e)); fact = λ f t a e. c.settle-2.ensures.fact (not-true c.settle-2.result c.if-not-settle-2.true-raw) t (c.settle.ensures.by_index t (c.narrow.ensures.by_index t a e)) }

pub returns : goal.returns
returns c = record { by_index = λ t a e. c.settle-3.ensures.by_index t (c.settle-2.ensures.by_index t (c.settle.ensures.by_index t (c.narrow.ensures.by_index t a e))); fact = λ f t a e. c.settle-3.ensures.fact f t (c.settle-2.ensures.by_index t (c.settle.ensures.by_index t (c.narrow.ensures.by_index t a e))) }
