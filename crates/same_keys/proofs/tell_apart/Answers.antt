use native.Mathlib.Omega.{arith}
use Rattle.same_keys.specs.Keys.{prime, apart_by, highest, told_apart}
use Rattle.same_keys.proofs.Low.{bump-low, low-more, zeros-low}
use borrow.Author.Rules.{rules}
use Rattle.same_keys.proofs.tell_apart.Goals as goal

pub overflow_add-keys : goal.overflow_add-keys
overflow_add-keys c = omega (arith, c.requires.n_le_max_same.2.at c.args.a)

pub refine-requires : goal.refine-requires
refine-requires c = record { inside = c.requires.inside; n_in_bounds = (omega (arith, c.requires.n_le_max_same.0), search rules); r_bound = (omega arith, zeros-low 64 prime, low-more (bump-low c.args.keys.now c.args.a apart_by (highest 33) c.requires.n_le_max_same.2) (omega arith)) }

pub returns : goal.returns
unfolding told_apart
returns c = c.refine.ensures
