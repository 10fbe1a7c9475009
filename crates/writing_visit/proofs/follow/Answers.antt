use borrow.Author.Tests.{eq-eqb, ne_eqb}
use Rattle.writing_visit.proofs.follow.Goals as goal

pub returns-then-first-v : goal.returns-then-first-v
returns-then-first-v c = let e = eq-eqb _ _ c.if-first-v.true in
    record { other_value = simp e; kind_value = simp e; next_value = simp e }

pub returns : goal.returns
returns c = let e = ne_eqb _ _ c.if-first-v.false in
    record { other_value = simp e; kind_value = simp (e, c.turned-turned.ensures); next_value = simp e }
