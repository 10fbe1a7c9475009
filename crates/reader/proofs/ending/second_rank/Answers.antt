use native.Mathlib.Omega.{arith}
use borrow.Author.Tests.{eq-eqb, ne_eqb}
use Rattle.reader.proofs.ending.second_rank.Goals as goal

pub returns-then-key-gt0 : goal.returns-then-key-gt0
returns-then-key-gt0 c = simp (ne_eqb c.args.key 0 (λ z. omega (arith, c.if-key-gt0.true, z)))

pub returns : goal.returns
returns c = simp (eq-eqb c.args.key 0 (omega (arith, c.if-key-gt0.false)))
