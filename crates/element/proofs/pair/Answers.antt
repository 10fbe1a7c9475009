use Prim.Native.Nat.{ℕ, ◌+◌, ◌-◌}
use mathlib.Core.Path.{◌≡◌, ap}
use mathlib.Core.List.{[], ◌∷◌}
use borrow.Author.Tests.{ne_eqb}
use native.Mathlib.Omega.{arith}
use Rattle.element.specs.Lookup.{number_of}
use Rattle.element.proofs.Symbols.{no-small, small, Small}
use Rattle.element.proofs.pair.Goals as goal

entry : (a b : ℕ) → Small b → number_of (a ∷ (97 + (b - 97)) ∷ []) ≡ number_of (a ∷ b ∷ [])
entry a b l = ap (λ k. number_of (a ∷ k ∷ [])) (omega (arith, l.low))

pub returns-then-b : goal.returns-then-b
returns-then-b c = rw (no-small c.args.a c.args.b c.if-b.true)

pub overflow_sub-b : goal.overflow_sub-b
overflow_sub-b c = (small c.args.b c.if-b.false).low

pub in_row-requires : goal.in_row-requires
in_row-requires c = omega (arith, (small c.args.b c.if-b.false).high)

pub returns-in-0 : goal.returns-in-0
returns-in-0 c = rw (← entry c.args.a c.args.b (small c.args.b c.if-b.false), ← c.in_row.ensures, c.in-0.is)

pub returns-in_default : goal.returns-in_default
returns-in_default c = rw (← entry c.args.a c.args.b (small c.args.b c.if-b.false), ← c.in_row.ensures, ne_eqb c.in_row.result 0 (omega arith))
