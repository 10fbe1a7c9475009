use native.Mathlib.Omega.{arith}
use Rattle.same_keys.specs.Keys.{join_keys, highest}
use Rattle.same_keys.proofs.Spreading.{half-low}
use borrow.Author.Rules.{rules}
use Rattle.same_keys.proofs.join.Goals as goal

pub overflow_add-keys : goal.overflow_add-keys
overflow_add-keys c = omega (arith, c.requires.low.0.at c.args.b, c.requires.low.1.at c.args.a)

pub overflow_add-keys-2 : goal.overflow_add-keys-2
overflow_add-keys-2 c = omega (arith, (half-low _ c.args.a c.args.b (highest 80) c.requires.low.0 c.requires.low.1).at c.args.b, c.requires.low.0.at c.args.a)

pub returns : goal.returns
unfolding join_keys
returns c = search rules
